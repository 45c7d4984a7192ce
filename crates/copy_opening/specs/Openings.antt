-- What the opening of a copy does to the two devices.
use Rattle.std.specs.Prelude.{◌≡◌, ℕ, List, Option, replicate}
use Rattle.bench.specs.declared.Dev.TheVariants.{Target, Journal}
use Rattle.bench.specs.Disk.{Disk, IsSettled, Keeps, Runs}
use Rattle.block_map.specs.declared.maps.BlockMap.{BlockMap}
use Rattle.journal_format.specs.Journals.{IsHeld}
use Rattle.journal_format.specs.declared.jobs.JobId.{JobId}
use Rattle.copy_states.specs.Jobs.{IsJobOf, IsOwn}
use Rattle.copy_states.specs.Narrow as narrow
use Rattle.copy_states.specs.Narrow.{Narrow}
use Rattle.copy_states.specs.Standing.{Since}
use Rattle.copy_states.specs.Starts.{Pair}
use Rattle.copy_journal.specs.Events.{EachImage, IsNew, IsOpening}
use Rattle.copy_journal.specs.declared.marks.Marks.{Marks}

-- the target's image is one from before; the journal's is, too, or it isn't held, or is opened with no mark
abbrev pub IsOpeningPair : JobId → Disk → List ℕ → List ℕ → Type 0
IsOpeningPair id old t j = old.leaves Target t × IsOpening id old j

-- so it is of each pair now and since, and the target reads as before
pub record Opens (id : JobId) (old new : Disk) : Type 0 where
  pub target : new.reads Target ≡ old.reads Target
  pub pairs : Runs old new (IsOpeningPair id old)

-- no mark, and this window
pub record AreZeros (id : JobId) (w : ℕ) (marks : Marks) : Type 0 where
  pub units : marks.units ≡ replicate id.units 0
  pub ranges : marks.ranges ≡ replicate id.ranges 0
  pub window : marks.window ≡ w

-- the journal wasn't held, and is opened anew
pub record IsOpenedAnew (id : JobId) (w : ℕ) (old new : List ℕ) : Type 0 where
  pub was : ¬ IsHeld old
  pub now : IsNew id w new

-- where each image of the journal isn't held or is opened for the job, so is each since
abbrev pub KeepsOwn : JobId → Disk → Disk → Type 0
KeepsOwn id old new = EachImage old (IsOwn id) → Runs old new (λ t j. IsOwn id j)

-- for each map of the job, source and target at the first start, where each pair has Since, so has each since
abbrev pub OpeningKeepsSince : JobId → Disk → Disk → Type 0
OpeningKeepsSince id old new = (m : BlockMap) (source : Option (List ℕ)) (before : List ℕ) → IsJobOf id m →
    Keeps (Since id m source before) old new

-- what target and journal read
abbrev pub start_of : Disk → Pair
start_of disk = record { target = disk.reads Target; journal = disk.reads Journal }

-- where the target is settled, each pair since is narrow for that start, with any window
abbrev pub OpeningIsNarrow : JobId → Disk → Disk → Type 0
OpeningIsNarrow id old new = (m : BlockMap) (s : List ℕ) (w : ℕ) → IsSettled old Target →
    Runs old new (Narrow id m s (start_of old) w)

-- where the journal is settled, each pair since keeps what is recorded and checked there
abbrev pub OpeningKeepsMarks : JobId → Disk → Disk → Type 0
OpeningKeepsMarks id old new = (m : BlockMap) (s : List ℕ) → IsSettled old Journal →
    Runs old new (narrow.Keeps id m s (start_of old))
