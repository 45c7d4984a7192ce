-- The places of partitions as relations.
use Rattle.std.specs.Prelude.{◌≡◌, ℕ, ◌%◌, ◌<◌, ◌⊎◌, ◌↔◌, List, None, length, slice_index_or, take, unwrap_or}
use Rattle.std.specs.List.{Any}
use Rattle.image_specs.specs.declared.specs.ImageSpec.{ImageSpec}
use Rattle.placement_rules.specs.Frames.{frame_of}
use Rattle.placement_rules.specs.Places.{Stood, end_of, stood}
use Rattle.placement_rules.specs.declared.terms.Frame.{Frame}
use Rattle.placement_laws.specs.Placed.{ArePlaced, IsPlaceable}

-- the partitions of an image stand in the one way in which each is placed by those before it
abbrev pub PlacedExactly : Type 0
PlacedExactly =
    (spec : ImageSpec) (lens : List ℕ) (ss : List Stood)
    → IsPlaceable spec lens
    → ArePlaced spec lens ss ↔ (ss ≡ stood spec lens)

-- the first offset that it takes: that of its record, where it has one
abbrev pub first_of : Stood → ℕ
first_of s = unwrap_or s.place.head s.place.at

-- each lower multiple of its align is below the front end or below the end of one of these
abbrev pub IsEarliest : Frame → List Stood → Stood → Type 0
IsEarliest frame before s =
    s.terms.offset ≡ None
    → (m : ℕ)
    → m % s.terms.align ≡ 0
    → m < first_of s
    → (m < frame.front) ⊎ Any (λ earlier. m < end_of earlier) before

abbrev pub NoneEarlier : Type 0
NoneEarlier =
    (spec : ImageSpec) (lens : List ℕ)
    → IsPlaceable spec lens
    → (k : ℕ) (d : Stood)
    → k < length (stood spec lens)
    → IsEarliest (frame_of spec) (take k (stood spec lens)) (slice_index_or (stood spec lens) k d)
