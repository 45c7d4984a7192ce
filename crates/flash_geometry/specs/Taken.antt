-- Spans that are taken, and which of them a further one meets.
use Rattle.std.specs.Prelude.{◌≡◌, ℕ, ◌-◌, ◌^◌, ◌≤◌, max, min, Bool, nat_lt, List, Option}
use Rattle.std.specs.List.{position}
use Rattle.base_fields.specs.declared.spans.Span.{Span}
use Rattle.span_cover.specs.Cover.{covers}
use Rattle.flash_geometry.specs.Places.{last_end, span_end}

-- an offset is in both: the later of their beginnings lies before the earlier of their ends
abbrev pub shares : Span → Span → Bool
shares s t = nat_lt (max s.at t.at) (min (span_end s) (span_end t))

-- the number of the first of these that has an offset of the span
abbrev pub first_met : List Span → Span → Option ℕ
first_met spans s = position (shares s) spans

-- what of a span lies below 2^43
abbrev pub within_most : Span → Span
within_most s = record { at = s.at; len = min s.len (2 ^ 43 - s.at) }

-- a cover with the same offsets, and the greatest end
pub record AreTaken (spans cover : List Span) (last : ℕ) : Type 0 where
  pub same : (o : ℕ) → covers cover o ≡ covers spans o
  pub greatest : last ≡ last_end spans
  pub bounded : last ≤ 2 ^ 43
