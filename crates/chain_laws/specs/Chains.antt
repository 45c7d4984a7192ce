-- Copies that are stopped and gone on with, over what a bench tells of its devices: old is what they are at the start of a
-- run, new what they are at its end. A run is stopped, or answers whatever it answers.
use Rattle.std.specs.Prelude.{◌⊎◌, ℕ, List, [], ◌∷◌, Option}
use Rattle.bench.specs.declared.Dev.TheVariants.{Target, Journal}
use Rattle.bench.specs.Disk.{Disk, EachPair, EachSince, IsSettled, Keeps, Looked}
use Rattle.block_map.specs.declared.maps.BlockMap.{BlockMap}
use Rattle.journal_format.specs.Journals.{IsHeld}
use Rattle.journal_format.specs.declared.jobs.JobId.{JobId}
use Rattle.copy_states.specs.Jobs.{AreChecked}
use Rattle.copy_states.specs.Standing.{Copied, SameOffMap, Since}

-- what the runs of a chain have in common: the journal's id, the map, and the source's bytes, which are None where they
-- aren't told. The modes and the windows of the runs may differ.
pub record Job : Type 0 where
  pub id : JobId
  pub map : BlockMap
  pub source : Option (List ℕ)

-- a pair of a copy of the job that was first started on a target that read so
abbrev pub HasSince : Job → List ℕ → List ℕ → List ℕ → Type 0
HasSince job before = Since job.id job.map job.source before

-- ---- one run
-- a first start: the target is settled, and no image of the journal is held
pub record IsFirstStart (old : Disk) : Type 0 where
  pub target : IsSettled old Target
  pub journal : (image : List ℕ) → old.leaves Journal image → ¬ IsHeld image

-- A run of the job, by the clause that each run has: whatever the target read at the first start, where each pair at the
-- start of the run has Since, so has each pair since, and at its end.
abbrev pub IsRunOf : Job → Disk → Disk → Type 0
IsRunOf job old new = (before : List ℕ) → Keeps (HasSince job before) old new

-- each pair that a stop since the start of the run may have left has P, and so has each at its end
pub record HoldsIn (P : List ℕ → List ℕ → Type 0) (old new : Disk) : Type 0 where
  pub since : EachSince old.moment new P
  pub now : EachPair new P

-- ---- how a run goes on where the one before it, from old to new, was left
-- on a pair that a stop since the start of that run may have left, with both devices settled on it
pub record IsStopped (old new next : Disk) : Type 0 where
  pub left : new.left old.moment (next.reads Target) (next.reads Journal)
  pub target : IsSettled next Target
  pub journal : IsSettled next Journal

-- on such a pair, or on the bench as it stands at the end of that run: nothing is written in between
abbrev pub GoesOn : Disk → Disk → Disk → Type 0
GoesOn old new next = Looked new next ⊎ IsStopped old new next

-- ---- chains
-- a run by a bench before and after it
pub record Run (B : Type 0) : Type 0 where
  pub old : B
  pub new : B

-- these are runs of the job, each of which goes on where the one before it was left, the first one behind this last run
abbrev pub GoOn : {B : Type 0} → (B → Disk) → Job → Run B → List (Run B) → Type 0
GoOn disk job last [] = Unit {0}
GoOn disk job last (run ∷ runs) =
    GoesOn (disk last.old) (disk last.new) (disk run.old) × IsRunOf job (disk run.old) (disk run.new) × GoOn disk job run runs

-- a run from a first start, and the runs that go on from there
pub record IsChain {B : Type 0} (disk : B → Disk) (job : Job) (first : Run B) (later : List (Run B)) : Type 0 where
  pub start : IsFirstStart (disk first.old)
  pub run : IsRunOf job (disk first.old) (disk first.new)
  pub on : GoOn disk job first later

-- what the target reads at the first start
abbrev pub before_of : {B : Type 0} → (B → Disk) → Run B → List ℕ
before_of disk first = (disk first.old).reads Target

-- ---- done
-- what a run leaves that answers done: every range is checked in the journal's only image, and the target is settled
pub record EndsDone (job : Job) (new : Disk) : Type 0 where
  pub checked : AreChecked job.id (new.reads Journal)
  pub target : IsSettled new Target
  pub journal : IsSettled new Journal

-- the copy is done on a pair: the mapped bytes are the source's, each digest holds, and all else of the target is as before
pub record IsDoneCopy (job : Job) (before t j : List ℕ) : Type 0 where
  pub copied : Copied job.id job.map job.source t j
  pub rest : SameOffMap job.map before t

-- so it is on what the devices read, and on each pair that a stop may leave
pub record HoldsCopy (job : Job) (before : List ℕ) (new : Disk) : Type 0 where
  pub reads : IsDoneCopy job before (new.reads Target) (new.reads Journal)
  pub each : EachPair new (IsDoneCopy job before)
