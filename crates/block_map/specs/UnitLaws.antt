-- The laws of a map's ranges and of its units.
use Rattle.std.specs.Prelude.{◌≡◌, ℕ, ◌+◌, ◌-◌, ◌*◌, ◌^◌, ◌<◌, ◌≤◌, IsTrue, List, [], ◌∷◌, ◌++◌, length, take, slice_get, slice_index_or, Some, All}
use Rattle.base_fields.specs.declared.spans.Span.{Span}
use Rattle.span_cover.specs.Cover.{has}
use Rattle.block_map.specs.declared.maps.BlockMap.{BlockMap}
use Rattle.block_map.specs.declared.maps.Range.{Range}
use Rattle.base_fields.specs.Numbers.{IsPowerBetween}
use Rattle.block_map.specs.Maps.{AreRanges, Follows, IsMap, IsNext, is_mapped, max_ranges, part_of, parts_of, range_span}
use Rattle.block_map.specs.Pieces.{piece}
use Rattle.block_map.specs.Units.{IsRangeOf, first_of, joined, units_by_range, units_of}

-- ---- how a map is built
-- a map without ranges is one, and stays one with a range more
abbrev pub MapsBegin : Type 0
MapsBegin = (size block : ℕ) → size ≤ 2 ^ 43 → IsPowerBetween 512 65536 block →
    IsMap (record { size = size; block = block; ranges = [] })

abbrev pub MapsGrow : Type 0
MapsGrow = (m : BlockMap) (r : Range) → IsMap m → IsNext m r →
    IsMap (record m { ranges = m.ranges ++ r ∷ [] })

-- the same of the ranges alone, and what makes a map of them: the last block of the last one begins
-- below the size
abbrev pub RangesGrow : Type 0
RangesGrow = (rs : List Range) (r : Range) → AreRanges rs → r.first ≤ r.last → Follows rs r →
    AreRanges (rs ++ r ∷ [])

abbrev pub RangesMakeMaps : Type 0
RangesMakeMaps = (m : BlockMap) → AreRanges m.ranges → m.size ≤ 2 ^ 43 →
    IsPowerBetween 512 65536 m.block →
    length m.ranges ≤ max_ranges →
    ((d : Range) → 0 < length m.ranges →
    (slice_index_or m.ranges (length m.ranges - 1) d).last * m.block < m.size) →
    IsMap m

-- ---- the bytes of a range
-- the bytes of its first j units are its first ones, and those of all its units are all
abbrev pub FirstUnitsJoin : Type 0
FirstUnitsJoin = (m : BlockMap) (unit r j : ℕ) (d : Range) (bytes : List ℕ) → 0 < unit →
    r < length m.ranges →
    parts_of (take j (slice_index_or (units_by_range m unit) r [])) bytes
    ≡ take (j * unit) (part_of (range_span m (slice_index_or m.ranges r d)) bytes)

abbrev pub UnitsJoin : Type 0
UnitsJoin = (m : BlockMap) (unit r : ℕ) (d : Range) (bytes : List ℕ) → 0 < unit →
    r < length m.ranges →
    parts_of (slice_index_or (units_by_range m unit) r []) bytes
    ≡ part_of (range_span m (slice_index_or m.ranges r d)) bytes

-- ---- the numbers of units
-- unit k is number j of range r's: k is j from the range's first
pub record IsUnitOf (m : BlockMap) (unit k r j : ℕ) (u : Span) : Type 0 where
  pub number : k ≡ first_of (units_by_range m unit) r + j
  pub row : slice_get (slice_index_or (units_by_range m unit) r []) j ≡ Some u
  pub piece : (d : Range) → u ≡ piece unit (range_span m (slice_index_or m.ranges r d)) j

-- a unit is its range's by its number
abbrev pub UnitsHaveNumbers : Type 0
UnitsHaveNumbers = (m : BlockMap) (unit k r : ℕ) (u : Span) → 0 < unit →
    IsRangeOf (units_by_range m unit) k r → slice_get (units_of m unit) k ≡ Some u →
    IsUnitOf m unit k r (k - first_of (units_by_range m unit) r) u

-- and each number of a range is that of a unit
abbrev pub NumbersAreUnits : Type 0
NumbersAreUnits = (m : BlockMap) (unit r j : ℕ) → r < length m.ranges →
    j < length (slice_index_or (units_by_range m unit) r []) →
    IsRangeOf (units_by_range m unit) (first_of (units_by_range m unit) r + j) r

-- the numbers of the first units of ranges rise from 0 to the count
pub record FirstsRise (rows : List (List Span)) : Type 0 where
  pub start : first_of rows 0 ≡ 0
  pub rise : (r s : ℕ) → r < s → s ≤ length rows → first_of rows r < first_of rows s
  pub end : first_of rows (length rows) ≡ length (joined rows)

-- each range has units
pub record HaveUnits (m : BlockMap) (rows : List (List Span)) : Type 0 where
  pub as_many : length rows ≡ length m.ranges
  pub filled : All (λ row. 0 < length row) rows
  pub firsts : FirstsRise rows

abbrev pub RangesHaveUnits : Type 0
RangesHaveUnits = (m : BlockMap) (unit : ℕ) → IsMap m → 0 < unit →
    HaveUnits m (units_by_range m unit)

-- ---- a unit's bytes
-- it has some, at most a unit, which end within the image and are mapped
pub record IsUnit (m : BlockMap) (unit : ℕ) (u : Span) : Type 0 where
  pub filled : 0 < u.len
  pub most : u.len ≤ unit
  pub end : u.at + u.len ≤ m.size
  pub mapped : (o : ℕ) → IsTrue (has u o) → IsTrue (is_mapped m o)

abbrev pub UnitsAreUnits : Type 0
UnitsAreUnits = (m : BlockMap) (unit k : ℕ) (u : Span) → IsMap m → 0 < unit →
    slice_get (units_of m unit) k ≡ Some u → IsUnit m unit u

-- a unit ends before each later one begins
abbrev pub UnitsAreApart : Type 0
UnitsAreApart = (m : BlockMap) (unit k later : ℕ) (u v : Span) → IsMap m → 0 < unit → k < later →
    slice_get (units_of m unit) k ≡ Some u → slice_get (units_of m unit) later ≡ Some v →
    u.at + u.len ≤ v.at

-- a mapped offset is in a unit
abbrev pub MappedIsInAUnit : Type 0
MappedIsInAUnit = (m : BlockMap) (unit o : ℕ) → IsMap m → 0 < unit → IsTrue (is_mapped m o) →
    (k : ℕ) × (u : Span) × (slice_get (units_of m unit) k ≡ Some u) × IsTrue (has u o)
