-- The whole of what holds of a layout that is placed by the rules.
use Rattle.std.specs.Prelude.{◌≡◌, ℕ, List, None}
use Rattle.image_layout.specs.IsLayout.{IsLayout}
use Rattle.image_specs.specs.IsSpec.{IsSpec}
use Rattle.image_specs.specs.declared.specs.ImageSpec.{ImageSpec}
use Rattle.placement.specs.Layouts.{layout_of}
use Rattle.placement.specs.Said.{refusal}
use Rattle.placement_apart.specs.Apart.{AreLengths}

-- whatever the keys of an image are, and the length of each source's file: where nothing refuses its placing, its partitions
-- and its tables lie apart and within it, and the tables can be written and read back
abbrev pub PlacedIsLayout : Type 0
PlacedIsLayout =
    (spec : ImageSpec) (lens : List ℕ) → IsSpec spec → AreLengths spec.sources lens → refusal spec lens ≡ None
    → IsLayout (layout_of spec lens)
