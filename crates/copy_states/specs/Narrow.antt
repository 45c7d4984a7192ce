-- How near a pair of images is to the start of its run: s is the source's bytes, w the window of the run.
use Rattle.std.specs.Prelude.{◌≢◌, ◌⊎◌, ℕ, ◌<◌, ◌≤◌, List, length, Contains}
use Rattle.base_fields.specs.declared.spans.Span.{Span}
use Rattle.block_map.specs.declared.maps.BlockMap.{BlockMap}
use Rattle.journal_format.specs.declared.jobs.JobId.{JobId}
use Rattle.copy_states.specs.Jobs.{IsChecked, IsInRange, IsRecorded, IsUnitAt, SameIn}
use Rattle.copy_states.specs.Starts.{IsIdle, MixedGives, Pair}

-- unit k reads on the target as at the start
abbrev pub ReadsAsAtStart : JobId → BlockMap → Pair → List ℕ → ℕ → Type 0
ReadsAsAtStart id m start t k = (u : Span) → IsUnitAt id m k u → SameIn u start.target t

-- (a) There is a position among the idle units in order: those before it are recorded, and those at w positions
-- behind it or more read as at the start. Said by numbers of units: those below one number are recorded, those from
-- another number on read as at the start, and the idle ones between are among w numbers.
pub record IsInStep (id : JobId) (m : BlockMap) (start : Pair) (w : ℕ) (t j : List ℕ) : Type 0 where
  pub from : ℕ
  pub to : ℕ
  pub window : List ℕ
  pub few : length window ≤ w
  pub between : (k : ℕ) → IsIdle id m start k → from ≤ k → k < to → Contains window k
  pub before : (k : ℕ) → IsIdle id m start k → k < from → IsRecorded id k j
  pub behind : (k : ℕ) → IsIdle id m start k → to ≤ k → ReadsAsAtStart id m start t k

-- (b) range r has a digest that isn't the SHA-256 of its Mixed, every idle unit of an earlier range is recorded, and
-- every idle unit of a later range reads as at the start
pub record IsInRangeThatDiffers (id : JobId) (m : BlockMap) (s : List ℕ) (start : Pair) (r : ℕ) (t j : List ℕ)
    : Type 0 where
  pub want : List ℕ
  pub got : List ℕ
  pub mixed : MixedGives id m s start r want got
  pub differs : want ≢ got
  pub before : (k x : ℕ) → IsIdle id m start k → IsInRange id m k x → x < r → IsRecorded id k j
  pub behind : (k x : ℕ) → IsIdle id m start k → IsInRange id m k x → r < x → ReadsAsAtStart id m start t k

-- every unit that isn't idle reads as at the start, and (a) or (b) holds
pub record Narrow (id : JobId) (m : BlockMap) (s : List ℕ) (start : Pair) (w : ℕ) (t j : List ℕ) : Type 0 where
  pub others : (k : ℕ) → k < id.units → ¬ IsIdle id m start k → ReadsAsAtStart id m start t k
  pub place : IsInStep id m start w t j ⊎ ((r : ℕ) × IsInRangeThatDiffers id m s start r t j)

-- unit k is in a range for which (b) holds
abbrev pub IsExcepted : JobId → BlockMap → List ℕ → Pair → List ℕ → List ℕ → ℕ → Type 0
IsExcepted id m s start t j k = (r : ℕ) × IsInRange id m k r × IsInRangeThatDiffers id m s start r t j

-- what is recorded or checked at the start still is; the units of a range for which (b) holds are excepted
pub record Keeps (id : JobId) (m : BlockMap) (s : List ℕ) (start : Pair) (t j : List ℕ) : Type 0 where
  pub units : (k : ℕ) → k < id.units → IsRecorded id k start.journal →
      IsRecorded id k j ⊎ IsExcepted id m s start t j k
  pub ranges : (r : ℕ) → r < id.ranges → IsChecked id r start.journal → IsChecked id r j
