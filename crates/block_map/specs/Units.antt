-- The units of a map, as spans.
use Rattle.std.specs.Prelude.{ℕ, ◌+◌, ◌<◌, ◌≤◌, List, length, take, map}
use Rattle.std.specs.List.{flat_map}
use Rattle.base_fields.specs.declared.spans.Span.{Span}
use Rattle.block_map.specs.declared.maps.BlockMap.{BlockMap}
use Rattle.block_map.specs.Maps.{range_span}
use Rattle.block_map.specs.Pieces.{pieces}

-- how many units a map may have
abbrev pub max_units : ℕ
max_units = 4194304

-- lists of spans one behind another
abbrev pub joined : List (List Span) → List Span
joined rows = flat_map (λ row. row) rows

-- the units of each range of a map
abbrev pub units_by_range : BlockMap → ℕ → List (List Span)
units_by_range m unit = map (λ r. pieces unit (range_span m r)) m.ranges

-- all of them: a unit's number is its place here
abbrev pub units_of : BlockMap → ℕ → List Span
units_of m unit = joined (units_by_range m unit)

-- what contracts see of the units of a map: the size of a unit, the image's size, and the units of
-- each range
pub record Cut : Type 0 where
  pub unit : ℕ
  pub size : ℕ
  pub rows : List (List Span)

-- a map that is cut into units of so many bytes
abbrev pub cut_of : BlockMap → ℕ → Cut
cut_of m unit = record { unit = unit; size = m.size; rows = units_by_range m unit }

-- all units of a cut
abbrev pub units_in : Cut → List Span
units_in c = joined c.rows

-- the number of the first unit of range r, where each range's units are given
abbrev pub first_of : List (List Span) → ℕ → ℕ
first_of rows r = length (joined (take r rows))

-- unit k is one of range r's
pub record IsRangeOf (rows : List (List Span)) (k r : ℕ) : Type 0 where
  pub there : r < length rows
  pub from : first_of rows r ≤ k
  pub to : k < first_of rows (r + 1)
