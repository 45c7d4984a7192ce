-- What holds of all images that are built together.
use Rattle.std.specs.Prelude.{◌≡◌, ◌<◌, ◌≤◌, List, [], All, IfSome, length, slice_get}
use Rattle.std.specs.List.{range_with_len}
use Rattle.image_names.specs.Names.{AreApart, AreDisjoint}
use Rattle.image_order.specs.Chains.{HasNone}
use Rattle.image_order.specs.Order.{IsOrder, Places}
use Rattle.image_specs.specs.declared.specs.ImageSpec.{ImageSpec}
use Rattle.image_specs.specs.declared.specs.Source.{Source}
use Rattle.image_specs.specs.Specs.{full_names, spec_names}
use Rattle.image_graph.specs.declared.images.Graph.{Graph}
use Rattle.image_graph.specs.Children.{families_of}
use Rattle.image_graph.specs.Clashes.{taken}

-- a source with a child has that image's file
abbrev pub IsMadeOf : List ImageSpec → Source → Type 0
IsMadeOf specs source =
    IfSome source.child (λ child. (child < length specs) × (slice_get (full_names specs) child ≡ source.file))

-- the order is that in which the images of the text are placed one after another, each behind its children
pub record IsGraph (graph : Graph) : Type 0 where
  pub few : length graph.specs ≤ 64
  pub names : AreApart (spec_names graph.specs)
  pub fulls : AreApart (full_names graph.specs)
  pub ready : AreDisjoint (full_names graph.specs) (taken graph.specs)
  pub children : All (λ spec. All (IsMadeOf graph.specs) spec.sources) graph.specs
  pub no_cycle : HasNone (families_of graph.specs)
  pub in_order : IsOrder (families_of graph.specs) graph.order
  pub placed : Places (families_of graph.specs) (range_with_len 0 (length graph.specs)) [] graph.order
