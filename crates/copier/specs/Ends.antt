-- How the run of a copier ends, by the answer of its last step: s is the source's bytes.
use Rattle.std.specs.Prelude.{List, ℕ, Option, Some, Result, Ok, Err}
use Rattle.bench.specs.declared.Dev.TheVariants.{Target, Journal}
use Rattle.bench.specs.Disk.{Disk}
use Rattle.copy_states.specs.Outcomes.{EndsDiffering, EndsDone, EndsShort}
use Rattle.copy_states.specs.Standing.{CheckedAreRight}
use Rattle.copy_states.specs.Starts.{Pair}
use Rattle.copier_course.specs.declared.jobs.CopyJob.{CopyJob}
use Rattle.copier.specs.Copiers.{CameAlong, Progress}
use Rattle.copier.specs.Runs.{IsTold}
use Rattle.copier.specs.declared.faults.CopyFault.{CopyFault}
use Rattle.copier.specs.declared.faults.CopyFault.TheVariants.{TargetTooSmall, JournalHeld, NoJournal, JournalForeign, SourceShort, Missing, FileFault, DeviceFault, RangeDiffers, NoMemory}
use Rattle.copier.specs.declared.steps.Step.{Step}
use Rattle.copier.specs.declared.steps.Step.TheVariants as did

-- every checked range that has a digest has it, as the devices read
abbrev pub AreRight : CopyJob → Disk → Type 0
AreRight job disk = CheckedAreRight job.id job.map (disk.reads Target) (disk.reads Journal)

-- the outcome of the run that began on this start, where the answer is its last: a call that failed tells nothing of it
abbrev pub IsOutcome : CopyJob → List ℕ → Pair → Result Step CopyFault → Type 0
IsOutcome job s start (Ok (did.Unit k)) = Unit {0}
IsOutcome job s start (Ok (did.Kept k)) = Unit {0}
IsOutcome job s start (Ok (did.Range r)) = Unit {0}
IsOutcome job s start (Ok did.Done) = EndsDone job.id job.map s start
IsOutcome job s start (Err (TargetTooSmall has needs)) = ⊥
IsOutcome job s start (Err (JournalHeld kept finished)) = ⊥
IsOutcome job s start (Err NoJournal) = ⊥
IsOutcome job s start (Err (JournalForeign kept given len)) = ⊥
IsOutcome job s start (Err (SourceShort at)) = EndsShort job.id job.map s start at
IsOutcome job s start (Err Missing) = ⊥
IsOutcome job s start (Err FileFault) = Unit {0}
IsOutcome job s start (Err (DeviceFault dev)) = Unit {0}
IsOutcome job s start (Err (RangeDiffers range want got)) = EndsDiffering job.id job.map s start range want got
IsOutcome job s start (Err NoMemory) = ⊥

-- what a kept unit or an ended range tells is so for every source from which the copier has come along
abbrev pub KeepEnds : CopyJob → Progress → Disk → Result Step CopyFault → Type 0
KeepEnds job was disk answer = (s : List ℕ) (start : Pair) →
    CameAlong job was (Some s) start disk → AreRight job disk → IsOutcome job s start answer

-- what a step tells, for the file's bytes, where the files tell them
abbrev pub StepEnds : Type 0 → Option (List ℕ) → CopyJob → Progress → Disk → Result Step CopyFault → Type 0
StepEnds told file job was disk answer = (s : List ℕ) (start : Pair) → IsTold told file (Some s) →
    CameAlong job was (Some s) start disk → AreRight job disk → IsOutcome job s start answer
