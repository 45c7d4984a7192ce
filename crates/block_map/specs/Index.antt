-- What the index of a map's units keeps.
use Rattle.std.specs.Prelude.{◌≡◌, ℕ, ◌+◌, ◌^◌, ◌<◌, ◌≤◌, List, length, take, map, slice_index_or, All}
use Rattle.base_fields.specs.declared.spans.Span.{Span}
use Rattle.block_map.specs.declared.units.Part.{Part}
use Rattle.block_map.specs.Pieces.{pieces}
use Rattle.block_map.specs.Units.{joined, max_units}

-- the units of each part
abbrev pub rows_of : ℕ → List Part → List (List Span)
rows_of unit parts = map (λ p. pieces unit p.span) parts

-- each part has the number of its first unit, and bytes that end within the image
pub record IsIndex (unit size count : ℕ) (parts : List Part) : Type 0 where
  pub some : 0 < unit
  pub firsts : (k : ℕ) (d : Part) → k < length parts →
      (slice_index_or parts k d).first ≡ length (joined (rows_of unit (take k parts)))
  pub total : count ≡ length (joined (rows_of unit parts))
  pub filled : All (λ p. 0 < p.span.len) parts
  pub within : All (λ p. p.span.at + p.span.len ≤ size) parts
  pub small : size ≤ 2 ^ 43

-- what the units of a map keep: an index of not too many
pub record AreIndexed (unit size count : ℕ) (parts : List Part) : Type 0 where
  pub index : IsIndex unit size count parts
  pub few : count ≤ max_units
