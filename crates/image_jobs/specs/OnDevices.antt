-- What a run says of the two devices, by cases on the command that its words ask for: old is what they were, new what they
-- are. Of a copy everything is said of the job that the files say, and nothing where they say none: then all is as before.
use Rattle.std.specs.Prelude.{◌≡◌, ◌⊎◌, ◌+◌, length, Option, Some, None, IfErr, IfOk}
use Rattle.answer_lines.specs.declared.answer.Answer.{Answer}
use Rattle.bench.specs.Disk.{Disk, Looked, StillLeaves}
use Rattle.bench.specs.Meter.{Costs, CostsOn, Meter}
use Rattle.bench.specs.declared.Dev.{Dev}
use Rattle.bench.specs.declared.Dev.TheVariants.{Journal, Target}
use Rattle.copier.specs.Faults.{NoneIsLeft}
use Rattle.copier_course.specs.declared.jobs.CopyJob.{CopyJob}
use Rattle.copy_job.specs.Devices.{IsBounded as IsCopyBounded, work_said as copy_work_said}
use Rattle.copy_job.specs.Said.{copying_said}
use Rattle.copy_opening.specs.declared.opening.Mode.TheVariants.{Fresh}
use Rattle.copy_run.specs.Faults.{IsRunFault}
use Rattle.copy_run.specs.Runs.{OpensFor, RunHasOutcome, RunIsDone, RunIsNarrow, RunIsTallied, RunKeepsMarks, RunKeepsSince}
use Rattle.copy_stages.specs.Stages.{KeepsOwn}
use Rattle.device_commands.specs.CopyArm.{IsUnwritten, Tells}
use Rattle.device_commands.specs.ForgetArm.{Forgets, ForgettingKeepsSince}
use Rattle.journal_format.specs.Journals.{IsHeld}
use Rattle.map_source.specs.Said.{map_said}
use Rattle.outside.specs.Counts.{Counts}
use Rattle.outside.specs.Files.{Tree}
use Rattle.verify_job.specs.Devices.{IsBounded, work_said}
use Rattle.image_jobs.specs.declared.request.Command.{Command}
use Rattle.image_jobs.specs.declared.request.Command.TheVariants.{Build, Map, Copy, Forget, Verify, List as Listed}

-- ---- a copy, by the job that the files say

-- what is said of it
abbrev pub of_copy : Option Command → Tree → (CopyJob → Type 0) → Type 0
of_copy None file P = Unit {0}
of_copy (Some (Build request)) file P = Unit {0}
of_copy (Some (Map mapping)) file P = Unit {0}
of_copy (Some (Copy request)) file P = IfOk (copying_said file request) P
of_copy (Some (Forget journal)) file P = Unit {0}
of_copy (Some (Verify map target)) file P = Unit {0}
of_copy (Some (Listed image)) file P = Unit {0}

-- whatever it answers, each pair since its start is narrow for that start; it keeps what was recorded and checked; and
-- where each image of the journal wasn't held or was opened for the job, so is each since
abbrev pub StaysNarrow : Option Command → Type 0 → Tree → Disk → Disk → Type 0
StaysNarrow command told file old new = of_copy command file (λ job. RunIsNarrow told (file job.source) job old new)

abbrev pub KeepsMarks : Option Command → Type 0 → Tree → Disk → Disk → Type 0
KeepsMarks command told file old new = of_copy command file (λ job. RunKeepsMarks told (file job.source) job old new)

abbrev pub KeepsItsJournal : Option Command → Tree → Disk → Disk → Type 0
KeepsItsJournal command file old new = of_copy command file (λ job. KeepsOwn job.id old new)

-- its answer tells whether the copy could be opened, and why it couldn't
abbrev pub TellsOpening : Option Command → Tree → Disk → Answer → Type 0
TellsOpening command file old answer =
    of_copy command file (λ job. Tells (OpensFor job (old.reads Target) (old.reads Journal)) answer)

-- done means copied: every range is checked in the journal's only image, and the target is settled
abbrev pub IsCopied : Option Command → Tree → Disk → Answer → Type 0
IsCopied command file new answer = of_copy command file (λ job. Tells (RunIsDone job new) answer)

-- its numbers: all units, those that were idle at the start, and those that were recorded in ranges that weren't checked
abbrev pub IsTallied : Option Command → Tree → Disk → Answer → Type 0
IsTallied command file old answer = of_copy command file (λ job. Tells (RunIsTallied job old) answer)

-- its end is the one outcome of what stood at its start and of the source
abbrev pub HasOutcome : Option Command → Type 0 → Tree → Disk → Answer → Type 0
HasOutcome command told file old answer =
    of_copy command file (λ job. Tells (RunHasOutcome told (file job.source) job old) answer)

-- a refusal of its run has its cause: of a difference, the digest that the map states, and that of what the target reads
abbrev pub HasRunCause : Option Command → Type 0 → Tree → Disk → Counts → Counts → Meter → Meter → Answer → Type 0
HasRunCause command told file disk before now old new answer =
    of_copy command file (λ job. Tells (λ end. IfErr end (IsRunFault told job disk before now old new)) answer)

-- after a difference nothing of the range is recorded
abbrev pub IsCleared : Option Command → Tree → Disk → Answer → Type 0
IsCleared command file new answer = of_copy command file (λ job. Tells (λ end. IfErr end (NoneIsLeft job new)) answer)

-- ---- of each command

-- nothing was written, and each image from before may still be left
pub record IsAsBefore (old new : Disk) : Type 0 where
  pub looked : Looked old new
  pub stays : (each : Dev) → StillLeaves each old new

-- Since: a copy keeps it for its job, a forgetting for any; the other commands leave the devices as they were
abbrev pub KeepsSince : Option Command → Type 0 → Tree → Disk → Disk → Type 0
KeepsSince None told file old new = Unit {0}
KeepsSince (Some (Build request)) told file old new = Unit {0}
KeepsSince (Some (Map mapping)) told file old new = Unit {0}
KeepsSince (Some (Copy request)) told file old new =
    IfOk (copying_said file request) (λ job. RunKeepsSince told (file job.source) job old new)
KeepsSince (Some (Forget journal)) told file old new = ForgettingKeepsSince old new
KeepsSince (Some (Verify map target)) told file old new = Unit {0}
KeepsSince (Some (Listed image)) told file old new = Unit {0}

-- but for a copy and a forgetting, all is as before
abbrev pub LeavesDevices : Option Command → Disk → Disk → Type 0
LeavesDevices None old new = IsAsBefore old new
LeavesDevices (Some (Build request)) old new = IsAsBefore old new
LeavesDevices (Some (Map mapping)) old new = IsAsBefore old new
LeavesDevices (Some (Copy request)) old new = Unit {0}
LeavesDevices (Some (Forget journal)) old new = Unit {0}
LeavesDevices (Some (Verify map target)) old new = IsAsBefore old new
LeavesDevices (Some (Listed image)) old new = IsAsBefore old new

-- so it is of a copy where the files say no job
abbrev pub LeavesUnsaid : Option Command → Tree → Disk → Disk → Type 0
LeavesUnsaid None file old new = Unit {0}
LeavesUnsaid (Some (Build request)) file old new = Unit {0}
LeavesUnsaid (Some (Map mapping)) file old new = Unit {0}
LeavesUnsaid (Some (Copy request)) file old new = IfErr (copying_said file request) (λ refusal. IsAsBefore old new)
LeavesUnsaid (Some (Forget journal)) file old new = Unit {0}
LeavesUnsaid (Some (Verify map target)) file old new = Unit {0}
LeavesUnsaid (Some (Listed image)) file old new = Unit {0}

-- Nothing is written by a copy that isn't opened, or is refused memory; by one that is begun on a journal that is held; and
-- by a forgetting of a journal that isn't
abbrev pub WritesNothing : Option Command → Disk → Disk → Answer → Type 0
WritesNothing None old new answer = Unit {0}
WritesNothing (Some (Build request)) old new answer = Unit {0}
WritesNothing (Some (Map mapping)) old new answer = Unit {0}
WritesNothing (Some (Copy request)) old new answer =
    (IsUnwritten answer ⊎ ((request.mode ≡ Fresh) × IsHeld (old.reads Journal))) → Looked old new
WritesNothing (Some (Forget journal)) old new answer = (IsUnwritten answer ⊎ ¬ IsHeld (old.reads Journal)) → Looked old new
WritesNothing (Some (Verify map target)) old new answer = Unit {0}
WritesNothing (Some (Listed image)) old new answer = Unit {0}

-- where a forgetting is done, no image of the journal is held, and nothing but its gate has changed
abbrev pub HasForgotten : Option Command → Disk → Disk → Answer → Type 0
HasForgotten None old new answer = Unit {0}
HasForgotten (Some (Build request)) old new answer = Unit {0}
HasForgotten (Some (Map mapping)) old new answer = Unit {0}
HasForgotten (Some (Copy request)) old new answer = Unit {0}
HasForgotten (Some (Forget journal)) old new answer = Forgets old new answer
HasForgotten (Some (Verify map target)) old new answer = Unit {0}
HasForgotten (Some (Listed image)) old new answer = Unit {0}

-- ---- work

-- the most work that a command makes them
abbrev pub HasBill : Option Command → Tree → Meter → Meter → Type 0
HasBill None before old new = CostsOn Target 0 old new
HasBill (Some (Build request)) before old new = CostsOn Target 0 old new
HasBill (Some (Map mapping)) before old new = CostsOn Target 0 old new
HasBill (Some (Copy request)) before old new = Costs (copy_work_said request (copying_said before request)) old new
HasBill (Some (Forget journal)) before old new = CostsOn Journal (2048 + length journal) old new
HasBill (Some (Verify map target)) before old new =
    CostsOn Target (work_said (length target) (map_said (before map))) old new
HasBill (Some (Listed image)) before old new = CostsOn Target 0 old new

-- the same where the files aren't told: a copy or a comparing works as much as some job or map bounds
abbrev pub HasBound : Option Command → Meter → Meter → Type 0
HasBound None old new = CostsOn Target 0 old new
HasBound (Some (Build request)) old new = CostsOn Target 0 old new
HasBound (Some (Map mapping)) old new = CostsOn Target 0 old new
HasBound (Some (Copy request)) old new = IsCopyBounded request old new
HasBound (Some (Forget journal)) old new = CostsOn Journal (2048 + length journal) old new
HasBound (Some (Verify map target)) old new = IsBounded (length target) old new
HasBound (Some (Listed image)) old new = CostsOn Target 0 old new
