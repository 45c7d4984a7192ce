-- What holds at the opening of a run, and what a write of the gate keeps.
use Rattle.std.specs.Prelude.{◌≡◌, ◌↔◌, ℕ, ◌<◌, List, [], Option, length, slice_index}
use Rattle.bench.specs.Disk.{Torn}
use Rattle.block_map.specs.Units.{first_of, units_by_range}
use Rattle.block_map.specs.declared.maps.BlockMap.{BlockMap}
use Rattle.journal_format.specs.Journals.{HasNoMark, IsHeld}
use Rattle.journal_format.specs.declared.jobs.JobId.{JobId}
use Rattle.copy_states.specs.Along.{Along, IsPresent, Position}
use Rattle.copy_states.specs.Jobs.{IsChecked, IsJobOf, IsOwn, IsRecorded}
use Rattle.copy_states.specs.Standing.{Standing}
use Rattle.copy_states.specs.Starts.{Pair}

-- the same units are recorded, and the same ranges checked
pub record SameMarks (id : JobId) (old new : List ℕ) : Type 0 where
  pub units : (k : ℕ) → k < id.units → IsRecorded id k new ↔ IsRecorded id k old
  pub ranges : (r : ℕ) → r < id.ranges → IsChecked id r new ↔ IsChecked id r old

-- so it is of a journal that wasn't held and one with no mark
abbrev pub NewHasSameMarks : Type 0
NewHasSameMarks = (id : JobId) (old new : List ℕ) → ¬ IsHeld old → HasNoMark id new → SameMarks id old new

-- a copier that was opened: the first unit of the first range that isn't checked, and no unit in the window
pub record IsAtOpening (id : JobId) (m : BlockMap) (p : Position) (j : List ℕ) : Type 0 where
  pub present : IsPresent (λ r. IsChecked id r j) id.ranges p.range
  pub unit : p.unit ≡ first_of (units_by_range m id.unit) p.range
  pub window : p.window ≡ []

-- it is along for its start
abbrev pub OpeningIsAlong : Type 0
OpeningIsAlong = (id : JobId) (m : BlockMap) (source : Option (List ℕ)) (start : Pair) (w : ℕ) (p : Position)
    (j : List ℕ) → IsJobOf id m → 0 < w → SameMarks id start.journal j → IsAtOpening id m p j →
    Along id m source start w p start.target j

-- ---- the gate
-- a held journal that is closed
abbrev pub ClosingKeepsStanding : Type 0
ClosingKeepsStanding = (id : JobId) (m : BlockMap) (source : Option (List ℕ)) (t j new : List ℕ) → IsJobOf id m →
    IsHeld j → Torn 8 1 j new → Standing id m source t j → Standing id m source t new

-- what isn't held or is opened for the job stays so, under any marks
abbrev pub MarksKeepOwn : Type 0
MarksKeepOwn = (id : JobId) (j new : List ℕ) → length new ≡ length j →
    ((k : ℕ) → k < 80 → slice_index new k ≡ slice_index j k) → IsOwn id j → IsOwn id new
