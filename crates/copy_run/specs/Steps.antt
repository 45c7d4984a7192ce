-- What the steps of a copier do, from its opening to their answer: was is what it had come to when it was opened, now
-- what it has come to; old is what the devices were then, disk what they are.
use Rattle.std.specs.Prelude.{◌≡◌, ℕ, ◌+◌, ◌*◌, List, Option, None, Some, Result, Ok, Err, sum_by, take}
use Rattle.bench.specs.Disk.{Disk, EachPair, Runs}
use Rattle.bench.specs.Meter.{Meter}
use Rattle.block_map.specs.Units.{units_of}
use Rattle.outside.specs.Counts.{Counts, Rose}
use Rattle.copy_journal.specs.Faults.{HasFailed}
use Rattle.copy_laws.specs.Narrowing.{IsNear}
use Rattle.copy_stages.specs.Stages.{KeepsOwn}
use Rattle.copy_states.specs.Standing.{Since}
use Rattle.copy_states.specs.Starts.{Pair}
use Rattle.copier.specs.Copiers.{CameAlong, Progress, WindowReads}
use Rattle.copier.specs.Runs.{IsTold}
use Rattle.copier.specs.declared.faults.CopyFault.{CopyFault}
use Rattle.copier.specs.declared.faults.CopyFault.TheVariants.{TargetTooSmall, JournalHeld, NoJournal, JournalForeign, SourceShort, Missing, FileFault, DeviceFault, RangeDiffers, NoMemory}
use Rattle.copier.specs.declared.steps.Step.{Step}
use Rattle.copier_course.specs.declared.jobs.CopyJob.{CopyJob}
use Rattle.copy_tally.specs.Laws.{kept_by, written_by}
use Rattle.copy_tally.specs.Tallies.{IsTallied}
use Rattle.copy_run.specs.Faults.{IsDifference}
use Rattle.copy_run.specs.Runs.{HasTally, IsOutcome, RunKeepsSince}
use Rattle.copy_run.specs.declared.running.Tally.{Tally}

-- the window, the present unit and the present range
abbrev pub window_in : Progress → ℕ
window_in (Ok course) = course.window
window_in (Err fault) = 0

abbrev pub unit_in : Progress → ℕ
unit_in (Ok course) = course.unit
unit_in (Err fault) = 0

abbrev pub range_in : Progress → ℕ
range_in (Ok course) = course.range
range_in (Err fault) = 0

-- it hasn't refused
abbrev pub IsGoing : Progress → Type 0
IsGoing (Ok course) = Unit {0}
IsGoing (Err fault) = ⊥

-- ---- the images
-- each pair since is near to each start from which the copier had come along
abbrev pub StepsStayNear : Type 0 → Option (List ℕ) → CopyJob → Progress → Disk → Disk → Type 0
StepsStayNear told file job was old disk = (s : List ℕ) (start : Pair) → IsTold told file (Some s) →
    CameAlong job was (Some s) start old → Runs old disk (IsNear job.id job.map s start (window_in was))

-- what holds of the images between two steps
pub record IsUnderWay (told : Type 0) (file : Option (List ℕ)) (job : CopyJob) (was now : Progress) (old disk : Disk)
    : Type 0 where
  pub since : RunKeepsSince told file job old disk
  pub own : KeepsOwn job.id old disk
  pub near : StepsStayNear told file job was old disk
  pub reads : (source : Option (List ℕ)) → IsTold told file source → WindowReads job now source disk
  pub along : (source : Option (List ℕ)) (start : Pair) → IsTold told file source → CameAlong job was source start old →
      CameAlong job now source start disk
  pub window : window_in now ≡ window_in was

-- ---- the numbers
-- so many units are written and kept, counted from each start from which the copier had come along with none
abbrev pub AreCounted : CopyJob → Progress → Progress → Disk → ℕ → ℕ → Type 0
AreCounted job was now old written kept = (start : Pair) → CameAlong job was None start old →
    IsTallied job.id job.map start (unit_in was) 0 0 → IsTallied job.id job.map start (unit_in now) written kept

-- a step adds what it did
abbrev pub Adds : Step → Tally → Tally → Type 0
Adds step old new = new ≡ record old { written = old.written + written_by step; kept = old.kept + kept_by step }

-- at the end they are those of the run
abbrev pub StepsAreTallied : CopyJob → Progress → Disk → Result Tally CopyFault → Type 0
StepsAreTallied job was old (Ok tally) = (start : Pair) → CameAlong job was None start old →
    IsTallied job.id job.map start (unit_in was) 0 0 → HasTally job start tally
StepsAreTallied job was old (Err fault) = Unit {0}

-- the most work of the steps up to this unit and this range: for each of them, and the bytes of the units
abbrev pub spent : CopyJob → ℕ → ℕ → ℕ
spent job k r = 1024 * (k + r) + sum_by (λ u. u.len) (take k (units_of job.map job.id.unit))

-- the most work of all steps: the last may end a range that differs, and take back each of its units
abbrev pub most_steps : CopyJob → ℕ
most_steps job = 1026 * job.id.units + 1024 * job.id.ranges + sum_by (λ u. u.len) (units_of job.map job.id.unit)

-- ---- the answer
-- the outcome is that of each start from which the copier had come along, where each pair had Since
abbrev pub StepsHaveOutcome : Type 0 → Option (List ℕ) → CopyJob → Progress → Disk → Result Tally CopyFault → Type 0
StepsHaveOutcome told file job was old answer = (s before : List ℕ) (start : Pair) → IsTold told file (Some s) →
    EachPair old (Since job.id job.map (Some s) before) → CameAlong job was (Some s) start old →
    IsOutcome job s start answer

-- why a step isn't done: none of the refusals of an opening is answered
abbrev pub IsLastFault : Type 0 → CopyJob → Disk → Counts → Counts → Meter → Meter → CopyFault → Type 0
IsLastFault told job disk before now old new (TargetTooSmall has needs) = ⊥
IsLastFault told job disk before now old new (JournalHeld kept finished) = ⊥
IsLastFault told job disk before now old new NoJournal = ⊥
IsLastFault told job disk before now old new (JournalForeign kept given len) = ⊥
IsLastFault told job disk before now old new (SourceShort at) = Rose before.ends now.ends
IsLastFault told job disk before now old new Missing = Rose before.absences now.absences
IsLastFault told job disk before now old new FileFault = Rose before.faults now.faults
IsLastFault told job disk before now old new (DeviceFault dev) = HasFailed dev old new
IsLastFault told job disk before now old new (RangeDiffers range want got) = IsDifference told job range want got disk
IsLastFault told job disk before now old new NoMemory = ⊥
