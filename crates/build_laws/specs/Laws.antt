-- Laws of builds.
use Rattle.std.specs.Prelude.{◌≡◌, List, Ok, length}
use Rattle.image_graph.specs.declared.images.Graph.{Graph}
use Rattle.image_graph.specs.IsGraph.{IsGraph}
use Rattle.image_layout.specs.declared.layout.Layout.{Layout}
use Rattle.image_parts.specs.Files.{HaveNeeded}
use Rattle.image_plan.specs.Plans.{plan_said}
use Rattle.image_specs.specs.declared.specs.ImageSpec.{ImageSpec}
use Rattle.outside.specs.Files.{Tree}
use Rattle.build_laws.specs.Builds.{Built, BuildsTo}
use Rattle.build_laws.specs.Order.{AreInOrder, ordered}

-- images that are built one after another are built by the files afterwards, too
abbrev pub BuiltAfterwards : Type 0
BuiltAfterwards =
    (all specs : List ImageSpec) (before after : Tree)
    → AreInOrder all specs
    → BuildsTo all specs before after
    → Built all before specs after

-- so are those of a graph
abbrev pub GraphsAreBuilt : Type 0
GraphsAreBuilt =
    (graph : Graph) (before after : Tree)
    → IsGraph graph
    → BuildsTo graph.specs (ordered graph) before after
    → Built graph.specs before (ordered graph) after

-- and no image of a graph is left out
abbrev pub NoneLeftOut : Type 0
NoneLeftOut =
    (graph : Graph) (before after : Tree)
    → IsGraph graph
    → Built graph.specs before (ordered graph) after
    → Built graph.specs before graph.specs after

-- where an image has a layout by the files, they have every byte that it needs of them
abbrev pub PlansAreServed : Type 0
PlansAreServed =
    (file : Tree) (spec : ImageSpec) (layout : Layout)
    → plan_said file spec ≡ Ok layout
    → HaveNeeded file layout.parts (length layout.parts)
