-- Where a copier stands, and how far a run has come: s is the source's bytes, None where they aren't told.
use Rattle.std.specs.Prelude.{◌≡◌, ◌⊎◌, ◌↔◌, ℕ, ◌+◌, ◌<◌, ◌≤◌, List, length, Option, IfSome, All, AllPairs, Contains}
use Rattle.base_fields.specs.declared.spans.Span.{Span}
use Rattle.block_map.specs.Units.{first_of, units_by_range}
use Rattle.block_map.specs.declared.maps.BlockMap.{BlockMap}
use Rattle.journal_format.specs.declared.jobs.JobId.{JobId}
use Rattle.copy_states.specs.Jobs.{HasFrom, IsChecked, IsInRange, IsRecorded, IsUnitAt}
use Rattle.copy_states.specs.Narrow.{ReadsAsAtStart}
use Rattle.copy_states.specs.Starts.{IsIdle, Pair}

-- the present unit, the present range, and the numbers of the units of the open window
pub record Position : Type 0 where
  pub unit : ℕ
  pub range : ℕ
  pub window : List ℕ

-- the present range is the first that isn't checked, or past the last one where each is
pub record IsPresent (checked : ℕ → Type 0) (ranges r : ℕ) : Type 0 where
  pub within : r ≤ ranges
  pub before : (earlier : ℕ) → earlier < r → checked earlier
  pub unchecked : r < ranges → ¬ checked r

-- What holds of the position of a copier that hasn't failed, by what its marks say. The present unit is from the
-- range's first to just past its last; each unit of the range before it is recorded or in the window, and where the
-- window has units, one of the range at or after the present one isn't recorded.
pub record IsPosition (id : JobId) (m : BlockMap) (recorded checked : ℕ → Type 0) (w : ℕ) (p : Position) : Type 0 where
  pub present : IsPresent checked id.ranges p.range
  pub low : first_of (units_by_range m id.unit) p.range ≤ p.unit
  pub high : p.range < id.ranges → p.unit ≤ first_of (units_by_range m id.unit) (p.range + 1)
  pub end : p.range ≡ id.ranges → p.unit ≡ id.units
  pub passed : (k : ℕ) → IsInRange id m k p.range → k < p.unit → recorded k ⊎ Contains p.window k
  pub ascends : AllPairs (λ k later. k < later) p.window
  pub few : length p.window < w
  pub window : All (λ k. IsInRange id m k p.range × (k < p.unit) × (¬ recorded k)) p.window
  pub more : 0 < length p.window → (k : ℕ) × IsInRange id m k p.range × (p.unit ≤ k) × (¬ recorded k)

-- the same by the marks of a journal
abbrev pub IsPositionOn : JobId → BlockMap → List ℕ → ℕ → Position → Type 0
IsPositionOn id m j = IsPosition id m (λ k. IsRecorded id k j) (λ r. IsChecked id r j)

-- The run that began on this start has come to the position. A unit is passed where it stands before the present one
-- in a range that isn't checked at the start; the open window is the last idle units that were passed.
pub record Along (id : JobId) (m : BlockMap) (source : Option (List ℕ)) (start : Pair) (w : ℕ) (p : Position)
    (t j : List ℕ) : Type 0 where
  pub few : length p.window < w
  pub window : All (λ k. IsIdle id m start k × (k < p.unit) × IsInRange id m k p.range) p.window
  pub last : (k o : ℕ) → Contains p.window o → o < k → IsIdle id m start k → k < p.unit → Contains p.window k
  pub recorded : (k : ℕ) → IsIdle id m start k → k < p.unit → IsRecorded id k j ⊎ Contains p.window k
  pub copied : IfSome source (λ s. (k : ℕ) (u : Span) → IsIdle id m start k → k < p.unit →
      IsUnitAt id m k u → HasFrom u s t)
  pub unrecorded : (k : ℕ) → IsIdle id m start k → p.unit ≤ k → ¬ IsRecorded id k j
  pub unwritten : (k : ℕ) → IsIdle id m start k → p.unit ≤ k → ReadsAsAtStart id m start t k
  pub others : (k : ℕ) → k < id.units → ¬ IsIdle id m start k → ReadsAsAtStart id m start t k
  pub kept : (k : ℕ) → k < id.units → IsRecorded id k start.journal → IsRecorded id k j
  pub before : (r : ℕ) → r < p.range → r < id.ranges → IsChecked id r j
  pub behind : (r : ℕ) → p.range ≤ r → r < id.ranges → IsChecked id r j ↔ IsChecked id r start.journal
