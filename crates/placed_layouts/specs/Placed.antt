-- Which layout an image is given, as a relation.
use Rattle.std.specs.Prelude.{◌≡◌, ℕ, ◌+◌, if◌then◌else◌, ◌↔◌, List, Option, Some, None}
use Rattle.image_layout.specs.declared.layout.Layout.{Layout}
use Rattle.image_specs.specs.declared.specs.ImageSpec.{ImageSpec}
use Rattle.placement.specs.Layouts.{layout_in, layout_of}
use Rattle.placement_laws.specs.Placed.{ArePlaced, IsLeastSpot, IsPlaceable}
use Rattle.placement_rules.specs.Frames.{backup_len, frame_of, has_table}
use Rattle.placement_rules.specs.Places.{Stood}
use Rattle.placement_rules.specs.declared.terms.Frame.{Frame}

-- the end of an image is a whole sector where it has a table
abbrev pub end_unit : Frame → ℕ
end_unit frame = if has_table frame.table then frame.sector else 1

-- the least multiple of that unit that isn't below the front end nor below the end of any partition, and the backup behind
abbrev pub EndsAt : Frame → List Stood → ℕ → Type 0
EndsAt frame ss size = (m : ℕ) × IsLeastSpot frame ss (end_unit frame) m × (size ≡ m + backup_len frame)

-- its key, else where it ends
abbrev pub HasImageSize : Frame → Option ℕ → List Stood → ℕ → Type 0
HasImageSize frame (Some given) ss size = size ≡ given
HasImageSize frame None ss size = EndsAt frame ss size

-- the layout of partitions each of which is placed by those that are listed before it
abbrev pub Placed : ImageSpec → List ℕ → Layout → Type 0
Placed spec lens l =
    (ss : List Stood)
    × ArePlaced spec lens ss
    × HasImageSize (frame_of spec) (frame_of spec).size ss l.size
    × (l ≡ layout_in spec (frame_of spec) ss)

-- an image has one such layout, and it is the one that is answered
abbrev pub PlacedDetermines : Type 0
PlacedDetermines =
    (spec : ImageSpec) (lens : List ℕ) (l : Layout) → IsPlaceable spec lens → Placed spec lens l ↔ (l ≡ layout_of spec lens)
