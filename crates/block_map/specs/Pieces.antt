-- A span that is cut into pieces.
use Rattle.std.specs.Prelude.{ℕ, ◌+◌, ◌-◌, ◌*◌, min, List, map}
use Rattle.std.specs.List.{range_with_len}
use Rattle.std.specs.Int.{div_ceil}
use Rattle.base_fields.specs.declared.spans.Span.{Span}

-- piece number j of a span that is cut from its start into pieces of so many bytes, the last one shorter
abbrev pub piece : ℕ → Span → ℕ → Span
piece unit span j = record { at = span.at + j * unit; len = min unit (span.len - j * unit) }

-- all of them
unfoldable pub pieces : ℕ → Span → List Span
pieces unit span = map (piece unit span) (range_with_len 0 (div_ceil span.len unit))
