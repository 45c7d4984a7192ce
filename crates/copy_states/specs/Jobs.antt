-- The job of a copy over plain values: its numbers, its units and ranges, and what an image of its journal records.
use Rattle.std.specs.Prelude.{◌≡◌, ◌⊎◌, ℕ, ◌+◌, ◌<◌, ◌≤◌, List, length, slice_get, Some}
use Rattle.base_fields.specs.Numbers.{IsPowerBetween}
use Rattle.base_fields.specs.declared.spans.Span.{Span}
use Rattle.block_map.specs.Maps.{IsMap, part_of}
use Rattle.block_map.specs.Units.{IsRangeOf, units_by_range, units_of}
use Rattle.block_map.specs.declared.maps.BlockMap.{BlockMap}
use Rattle.block_map.specs.declared.maps.Range.{Range}
use Rattle.journal_format.specs.Journals.{IsHeld, IsMarked, IsOpenedFor, range_mark, unit_mark}
use Rattle.journal_format.specs.declared.jobs.JobId.{JobId}

-- the id has the numbers of the map, of its ranges and of its units
pub record IsJobOf (id : JobId) (m : BlockMap) : Type 0 where
  pub map : IsMap m
  pub unit : IsPowerBetween 65536 4194304 id.unit
  pub size : id.size ≡ m.size
  pub block : id.block ≡ m.block
  pub units : id.units ≡ length (units_of m id.unit)
  pub ranges : id.ranges ≡ length m.ranges

-- ---- units and ranges
-- unit k has these bytes
abbrev pub IsUnitAt : JobId → BlockMap → ℕ → Span → Type 0
IsUnitAt id m k u = slice_get (units_of m id.unit) k ≡ Some u

-- unit k is one of range r's
abbrev pub IsInRange : JobId → BlockMap → ℕ → ℕ → Type 0
IsInRange id m k r = IsRangeOf (units_by_range m id.unit) k r

-- range r of the map is this one
abbrev pub IsRangeAt : BlockMap → ℕ → Range → Type 0
IsRangeAt m r range = slice_get m.ranges r ≡ Some range

-- an image has the same bytes as another in a span
abbrev pub SameIn : Span → List ℕ → List ℕ → Type 0
SameIn u from image = part_of u image ≡ part_of u from

-- it has these bytes of the other, and that one has them all
pub record HasFrom (u : Span) (from image : List ℕ) : Type 0 where
  pub there : u.at + u.len ≤ length from
  pub same : SameIn u from image

-- ---- marks
-- unit k is recorded: the journal is opened for the job, and the unit's mark is set
pub record IsRecorded (id : JobId) (k : ℕ) (j : List ℕ) : Type 0 where
  pub opened : IsOpenedFor id j
  pub mark : IsMarked j (unit_mark k)

-- range r is checked: the journal is opened for the job, and the range's mark is set
pub record IsChecked (id : JobId) (r : ℕ) (j : List ℕ) : Type 0 where
  pub opened : IsOpenedFor id j
  pub mark : IsMarked j (range_mark id r)

-- every range is
abbrev pub AreChecked : JobId → List ℕ → Type 0
AreChecked id j = (r : ℕ) → r < id.ranges → IsChecked id r j

-- unit k is in no range that is checked
abbrev pub IsUnchecked : JobId → BlockMap → ℕ → List ℕ → Type 0
IsUnchecked id m k j = (r : ℕ) → IsInRange id m k r → ¬ IsChecked id r j

-- the units of range r are recorded
abbrev pub AreRecorded : JobId → BlockMap → ℕ → List ℕ → Type 0
AreRecorded id m r j = (k : ℕ) → IsInRange id m k r → IsRecorded id k j

-- the journal isn't held, or is opened for the job
abbrev pub IsOwn : JobId → List ℕ → Type 0
IsOwn id j = (¬ IsHeld j) ⊎ IsOpenedFor id j
