-- What a call of a copier keeps of each pair of images that a stop since it may have left: for every source, whose bytes
-- are None where they aren't told, every target at the first start, and every start of the run.
use Rattle.std.specs.Prelude.{◌≡◌, ℕ, List, Option, None, Some, Result, Ok, Err}
use Rattle.bench.specs.declared.Dev.TheVariants.{Target, Journal}
use Rattle.bench.specs.Disk.{Disk, IsSettled, Keeps}
use Rattle.bench.specs.Meter.{Meter}
use Rattle.outside.specs.Counts.{Counts}
use Rattle.copy_states.specs.Jobs.{AreChecked}
use Rattle.copy_states.specs.Standing.{Since}
use Rattle.copy_states.specs.Starts.{Pair}
use Rattle.copier_course.specs.declared.jobs.CopyJob.{CopyJob}
use Rattle.copier_moves.specs.Moves.{AreSources, MovingIsNear}
use Rattle.copier.specs.Copiers.{CameAlong, Progress, WindowReads}
use Rattle.copier.specs.Faults.{IsKeepFault, IsStepFault, NoneIsLeft}
use Rattle.copier.specs.declared.faults.CopyFault.{CopyFault}
use Rattle.copier.specs.declared.steps.Step.{Step}
use Rattle.copier.specs.declared.steps.Step.TheVariants as did

-- ---- a unit is put, with these bytes
-- Since is kept where the window's units read as the source's bytes and the given ones are the source's, where these are
-- told: the digests of ranges, their marks and what isn't mapped stay whatever the bytes are
abbrev pub PutKeepsSince : CopyJob → Progress → ℕ → List ℕ → Disk → Disk → Type 0
PutKeepsSince job was k bytes old new = (source : Option (List ℕ)) (before : List ℕ) →
    WindowReads job was source old → AreSources job source k bytes → Keeps (Since job.id job.map source before) old new

-- so is that the window reads as the source's bytes, and the copier's way
abbrev pub PutKeepsWindow : CopyJob → Progress → Progress → ℕ → List ℕ → Disk → Disk → Type 0
PutKeepsWindow job was now k bytes old new = (source : Option (List ℕ)) →
    WindowReads job was source old → AreSources job source k bytes → WindowReads job now source new

abbrev pub PutGoesAlong : CopyJob → Progress → Progress → ℕ → List ℕ → Disk → Disk → Type 0
PutGoesAlong job was now k bytes old new = (source : Option (List ℕ)) (start : Pair) →
    CameAlong job was source start old → AreSources job source k bytes → CameAlong job now source start new

-- ---- a unit is kept, or a range ended
abbrev pub KeepsWindow : CopyJob → Progress → Progress → Disk → Disk → Type 0
KeepsWindow job was now old new = (source : Option (List ℕ)) → WindowReads job was source old → WindowReads job now source new

abbrev pub GoesAlong : CopyJob → Progress → Progress → Disk → Disk → Type 0
GoesAlong job was now old new = (source : Option (List ℕ)) (start : Pair) →
    CameAlong job was source start old → CameAlong job now source start new

-- ---- a step, which reads the source's file
-- these are the file's bytes where the files tell them, or no bytes are told
abbrev pub IsTold : Type 0 → Option (List ℕ) → Option (List ℕ) → Type 0
IsTold told file None = Unit {0}
IsTold told file (Some s) = told × (file ≡ Some s)

abbrev pub StepKeepsSince : Type 0 → Option (List ℕ) → CopyJob → Progress → Disk → Disk → Type 0
StepKeepsSince told file job was old new = (source : Option (List ℕ)) (before : List ℕ) →
    IsTold told file source → WindowReads job was source old → Keeps (Since job.id job.map source before) old new

abbrev pub StepKeepsWindow : Type 0 → Option (List ℕ) → CopyJob → Progress → Progress → Disk → Disk → Type 0
StepKeepsWindow told file job was now old new = (source : Option (List ℕ)) →
    IsTold told file source → WindowReads job was source old → WindowReads job now source new

abbrev pub StepGoesAlong : Type 0 → Option (List ℕ) → CopyJob → Progress → Progress → Disk → Disk → Type 0
StepGoesAlong told file job was now old new = (source : Option (List ℕ)) (start : Pair) →
    IsTold told file source → CameAlong job was source start old → CameAlong job now source start new

-- ---- of each call
-- each pair since is near to each start that the copier has come along from
abbrev pub StaysNear : CopyJob → Progress → Disk → Disk → Type 0
StaysNear job (Ok course) old new = MovingIsNear job course old new
StaysNear job (Err fault) old new = Unit {0}

-- the target reads as before
abbrev pub SameTarget : Disk → Disk → Type 0
SameTarget old new = new.reads Target ≡ old.reads Target

-- where Done is answered every range is checked in the journal's only image, and the target is settled
pub record IsDone (job : CopyJob) (disk : Disk) : Type 0 where
  pub checked : AreChecked job.id (disk.reads Journal)
  pub target : IsSettled disk Target
  pub journal : IsSettled disk Journal

abbrev pub ShowsDone : CopyJob → Disk → Result Step CopyFault → Type 0
ShowsDone job disk (Ok (did.Unit k)) = Unit {0}
ShowsDone job disk (Ok (did.Kept k)) = Unit {0}
ShowsDone job disk (Ok (did.Range r)) = Unit {0}
ShowsDone job disk (Ok did.Done) = IsDone job disk
ShowsDone job disk (Err fault) = Unit {0}

-- ---- the causes of a refusal that isn't a kept one
abbrev pub HasKeepCause : Type 0 → CopyJob → Progress → Disk → Meter → Meter → Result Step CopyFault → Type 0
HasKeepCause told job was disk old new (Ok step) = Unit {0}
HasKeepCause told job (Ok c) disk old new (Err fault) = IsKeepFault told job c disk old new fault
HasKeepCause told job (Err kept) disk old new (Err fault) = Unit {0}

abbrev pub HasStepCause : Type 0 → CopyJob → Progress → Disk → Counts → Counts → Meter → Meter → Result Step CopyFault → Type 0
HasStepCause told job was disk before after old new (Ok step) = Unit {0}
HasStepCause told job (Ok c) disk before after old new (Err fault) = IsStepFault told job c disk before after old new fault
HasStepCause told job (Err kept) disk before after old new (Err fault) = Unit {0}

-- and what such a refusal leaves of the range that differs
abbrev pub ClearsTheRange : CopyJob → Progress → Disk → Result Step CopyFault → Type 0
ClearsTheRange job was disk (Ok step) = Unit {0}
ClearsTheRange job (Ok c) disk (Err fault) = NoneIsLeft job disk fault
ClearsTheRange job (Err kept) disk (Err fault) = Unit {0}
