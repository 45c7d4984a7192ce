-- What a cover of a layout is made of.
use Rattle.std.specs.Prelude.{◌≡◌, ℕ, ◌+◌, ◌-◌, ◌*◌, ◌^◌, ◌≤◌, ◌⊎◌, List, Bool, ◌&&◌, ◌||◌, not, nat_le, nat_lt, if◌then◌else◌}
use Rattle.std.specs.List.{list_any}
use Rattle.base_fields.specs.Parts.{Part}
use Rattle.base_fields.specs.Parts.{covers as part_has}
use Rattle.base_fields.specs.declared.spans.Span.{Span}
use Rattle.gpt_table.specs.Gpt.{GptFits, HasRoom}
use Rattle.gpt_table.specs.declared.table.GptSpec.{GptSpec}
use Rattle.span_cover.specs.Cover.{covers}
use Rattle.image_layout.specs.IsLayout.{IsEmpty, IsLayout}
use Rattle.image_layout.specs.Layout.{has_file_byte, is_claimed}
use Rattle.image_layout.specs.declared.layout.Layout.{Layout}
use Rattle.image_layout.specs.declared.layout.Placed.{Placed}

abbrev pub CanBeCovered : Layout → Type 0
CanBeCovered l = IsLayout l ⊎ IsEmpty l

-- the offsets of a cover with those that pass a test
abbrev pub Gains : List Span → (ℕ → Bool) → List Span → Type 0
Gains old test new = (o : ℕ) → covers new o ≡ (covers old o || test o)

-- ---- partitions

-- of so many bytes from a place on, those that are in no hole
abbrev pub is_left : ℕ → ℕ → List Span → ℕ → Bool
is_left at reach holes o = nat_le at o && nat_lt o (at + reach) && not (covers holes (o - at))

-- how many bytes of a partition are covered, with those in its holes: all of it, or its file
abbrev pub reach_of : Placed → ℕ
reach_of p = if p.whole then p.size else p.len

-- an offset of the image that a partition covers
abbrev pub is_shown : Placed → ℕ → Bool
is_shown p o = has_file_byte p o || (p.whole && is_claimed p o)

-- ---- tables

-- an offset that one of the parts has
abbrev pub is_in : List Part → ℕ → Bool
is_in parts o = list_any (λ part. part_has part o) parts

-- a GUID partition table of a disk whose bytes can be counted
pub record FitsDisk (g : GptSpec) : Type 0 where
  pub fits : GptFits g
  pub room : HasRoom g
  pub size : g.sectors * g.sector ≤ 2 ^ 43
