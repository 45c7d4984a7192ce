-- How many units a run has written, and how many it has kept, counted from its start.
use Rattle.std.specs.Prelude.{◌≡◌, ◌↔◌, ℕ, ◌<◌, List, AllPairs, Contains, length, sum_by}
use Rattle.block_map.specs.Units.{units_of}
use Rattle.block_map.specs.declared.maps.BlockMap.{BlockMap}
use Rattle.journal_format.specs.declared.jobs.JobId.{JobId}
use Rattle.copy_states.specs.Jobs.{IsRecorded, IsUnchecked}
use Rattle.copy_states.specs.Starts.{IsIdle, Pair}

-- so many numbers are in a set
pub record IsCountOf (set : ℕ → Type 0) (count : ℕ) : Type 0 where
  pub members : List ℕ
  pub ascends : AllPairs (λ k later. k < later) members
  pub are : (k : ℕ) → Contains members k ↔ set k
  pub many : count ≡ length members

-- unit k is kept by the run: it is recorded at the start, in a range that isn't checked there
pub record IsKeptAt (id : JobId) (m : BlockMap) (start : Pair) (k : ℕ) : Type 0 where
  pub there : k < id.units
  pub recorded : IsRecorded id k start.journal
  pub unchecked : IsUnchecked id m k start.journal

-- before unit `end` the run has written as many units as are idle at its start, and kept as many as it keeps
pub record IsTallied (id : JobId) (m : BlockMap) (start : Pair) (end written kept : ℕ) : Type 0 where
  pub writes : IsCountOf (λ k. IsIdle id m start k × (k < end)) written
  pub keeps : IsCountOf (λ k. IsKeptAt id m start k × (k < end)) kept

-- the numbers of a run that is done: it has written each unit that is idle at its start, and kept each that it keeps
pub record IsTallyOf (id : JobId) (m : BlockMap) (start : Pair) (written kept : ℕ) : Type 0 where
  pub writes : IsCountOf (IsIdle id m start) written
  pub keeps : IsCountOf (IsKeptAt id m start) kept

-- how many bytes the units of a map have
abbrev pub unit_bytes : BlockMap → ℕ → ℕ
unit_bytes m unit = sum_by (λ u. u.len) (units_of m unit)
