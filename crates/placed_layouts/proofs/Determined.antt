-- An image has one layout.
use Rattle.std.specs.Prelude.{◌≡◌, ℕ, ◌≤◌, ◌⊎◌, Bool, true, false, if◌then◌else◌, List, Option, Some, None, unwrap_or}
use Rattle.std.proofs.Common.{refl, ◌∙◌, ap, sym, subst, arith, inl, inr}
use Rattle.image_layout.specs.declared.layout.Layout.{Layout}
use Rattle.image_specs.specs.declared.specs.ImageSpec.{ImageSpec}
use Rattle.placement.specs.Layouts.{image_size, layout_in, layout_of, needs_of}
use Rattle.placement_apart.proofs.Frames.{frame_is}
use Rattle.placement_laws.proofs.Exactly.{placed_exactly}
use Rattle.placement_laws.proofs.Spots.{spot_of}
use Rattle.placement_laws.specs.Placed.{ArePlaced, IsLeastSpot, IsPlaceable}
use Rattle.placement_rules.specs.Frames.{backup_len, frame_of, has_table}
use Rattle.placement_rules.specs.Places.{Stood, highest, least_multiple, stood}
use Rattle.placement_rules.specs.declared.terms.Frame.{Frame}
use Rattle.placed_layouts.specs.Placed.{EndsAt, HasImageSize, Placed, PlacedDetermines, end_unit}

-- the needs of an image are where it ends
ends_at : (frame : Frame) (ss : List Stood) → 1 ≤ end_unit frame → EndsAt frame ss (needs_of frame ss)
ends_at frame ss least =
    (least_multiple (end_unit frame) (highest frame ss), spot_of frame ss (end_unit frame) least, refl)

size_by : (frame : Frame) (given : Option ℕ) (ss : List Stood) → 1 ≤ end_unit frame → frame.size ≡ given → HasImageSize frame given ss (image_size frame ss)
size_by frame (Some size) ss least is = ap (λ (s : Option ℕ). unwrap_or s (needs_of frame ss)) is
size_by frame None ss least is =
    subst (λ (n : ℕ). EndsAt frame ss n) (sym (ap (λ (s : Option ℕ). unwrap_or s (needs_of frame ss)) is)) (ends_at frame ss least)

by_sizes : (z : ℕ) → (z ≡ 512) ⊎ (z ≡ 4096) → 1 ≤ z
by_sizes z (inl is) = omega (arith, is)
by_sizes z (inr is) = omega (arith, is)

sector_least : (spec : ImageSpec) (lens : List ℕ) → IsPlaceable spec lens → 1 ≤ (frame_of spec).sector
sector_least spec lens is = by_sizes (frame_of spec).sector (frame_is spec is.built.within.hd).sector

chosen : (c : Bool) (n : ℕ) → 1 ≤ n → 1 ≤ (if c then n else 1)
chosen true n h = h
chosen false n h = omega arith

pub placed_determines : PlacedDetermines
placed_determines spec lens l is = (
  (λ placed.
      let same : placed.0 ≡ stood spec lens = (placed_exactly spec lens placed.0 is).0 placed.1 in
      placed.3 ∙ ap (λ (ss : List Stood). layout_in spec (frame_of spec) ss) same),
  (λ same.
      let ss = stood spec lens in
      let frame = frame_of spec in
      let size : HasImageSize frame frame.size ss (image_size frame ss) =
      size_by frame frame.size ss (chosen (has_table frame.table) frame.sector (sector_least spec lens is)) refl in
      (ss, (placed_exactly spec lens ss is).1 refl, subst (λ (k : Layout). HasImageSize frame frame.size ss k.size) (sym same) size, same)),
)
