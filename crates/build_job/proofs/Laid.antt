-- An image with a layout that is composed.
use Rattle.std.specs.Prelude.{◌≡◌, List, Ok, IsTrue}
use Rattle.std.proofs.Common.{subst}
use Rattle.build_laws.specs.Builds.{Builds}
use Rattle.build_laws.proofs.Steps.{composed_builds}
use Rattle.image_composer.specs.Images.{IsMade, IsReadBack}
use Rattle.image_layout.specs.IsLayout.{IsLayout}
use Rattle.image_layout.specs.declared.layout.Layout.{Layout}
use Rattle.image_plan.specs.Plans.{is_planned, plan_said}
use Rattle.image_specs.specs.declared.specs.ImageSpec.{ImageSpec}
use Rattle.outside.specs.Files.{OthersStay, Tree}

pub laid_builds : (all : List ImageSpec) (spec : ImageSpec) (layout : Layout) (before middle after : Tree)
    → IsTrue (is_planned spec.kind) → plan_said before spec ≡ Ok layout → IsLayout layout → middle ≡ before
    → IsMade layout middle after → IsReadBack layout after → OthersStay layout.file middle after
    → Builds all spec before after
laid_builds all spec layout before middle after planned plan apart same made back others =
    composed_builds all spec layout before after planned plan apart
    (subst (λ (t : Tree). IsMade layout t after) same made) back
    (subst (λ (t : Tree). OthersStay layout.file t after) same others)
