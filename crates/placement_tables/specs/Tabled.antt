-- The tables of a layout are as its keys and the places of its partitions want them, and can be written and read back.
use Rattle.std.specs.Prelude.{◌≡◌, ℕ, List, None, length}
use Rattle.image_layout.specs.IsLayout.{IsTabled}
use Rattle.image_specs.specs.IsSpec.{IsSpec}
use Rattle.image_specs.specs.declared.specs.ImageSpec.{ImageSpec}
use Rattle.placement.specs.Layouts.{layout_of}
use Rattle.placement.specs.Said.{refusal}

-- whatever the keys of an image are, and the length of the file of each source: where nothing refuses its placing, its
-- layout has the tables of its kind, whose entries fit their fields and lie apart
abbrev pub PlacedIsTabled : Type 0
PlacedIsTabled =
    (spec : ImageSpec) (lens : List ℕ) → IsSpec spec → length lens ≡ length spec.sources
    → refusal spec lens ≡ None → IsTabled (layout_of spec lens).table (layout_of spec lens)
