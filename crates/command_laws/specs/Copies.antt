-- A copy that can be done, what the clauses of its command say of it, and how it ends. The disks are what the two devices
-- are at the start of the run, and at its end.
use Rattle.std.specs.Prelude.{◌≡◌, ◌⊎◌, ℕ, List, Some, Ok, IfOk}
use Rattle.base_fields.specs.Numbers.{IsPowerBetween}
use Rattle.outside.specs.Counts.{Counts, Rose}
use Rattle.outside.specs.Files.{Tree}
use Rattle.answer_lines.specs.declared.answer.Answer.{Answer}
use Rattle.answer_lines.specs.declared.answer.Answer.TheVariants.{Done, NoMemory}
use Rattle.answer_lines.specs.declared.answer.Report.TheVariants.{Copied}
use Rattle.bench.specs.Disk.{Disk, EachPair, Looked}
use Rattle.bench.specs.Meter.{Meter}
use Rattle.bench.specs.declared.Dev.TheVariants.{Target, Journal}
use Rattle.copier.specs.Runs.{IsDone}
use Rattle.copier_course.specs.declared.jobs.CopyJob.{CopyJob}
use Rattle.copy_job.specs.Said.{copying_said}
use Rattle.copy_job.specs.declared.requests.CopyRequest.{CopyRequest}
use Rattle.copy_opening.specs.Openings.{start_of}
use Rattle.copy_run.specs.Runs.{OpensFor, RunHasOutcome, RunIsDone, WasOpened}
use Rattle.copy_states.specs.Outcomes.{EndsDone}
use Rattle.copy_states.specs.Standing.{Since}
use Rattle.device_commands.specs.CopyArm.{CopyCompletes, IsUnwritten, Tells}

-- ---- a copy that can be done
-- The files say this job, and have its source. The target has room, and the journal isn't held where the copy is begun, or
-- was opened for this job where it goes on. Each pair that a stop may have left before has Since, for some first start. And
-- nothing refuses a range that is left: the source has each byte that is needed, and each digest is that of what the range
-- becomes.
pub record CanBeDone (file : Tree) (request : CopyRequest) (job : CopyJob) (old : Disk) : Type 0 where
  pub said : copying_said file request ≡ Ok job
  pub unit : IsPowerBetween 65536 4194304 request.unit
  pub source : List ℕ
  pub there : file job.source ≡ Some source
  pub opened : WasOpened job (old.reads Target) (old.reads Journal)
  pub before : List ℕ
  pub since : EachPair old (Since job.id job.map (Some source) before)
  pub ends : EndsDone job.id job.map source (start_of old)

-- ---- the clauses of its command
-- what is counted of the files, of the lines and of the devices
pub record Counters : Type 0 where
  pub files : Counts
  pub lines : ℕ
  pub devices : Meter

-- no call on the files or on a device has failed, and no line
pub record NoneFailed (was now : Counters) : Type 0 where
  pub files : ¬ (Rose was.files.faults now.files.faults)
  pub lines : ¬ (Rose was.lines now.lines)
  pub target : ¬ (Rose was.devices.faults.target now.devices.faults.target)
  pub journal : ¬ (Rose was.devices.faults.journal now.devices.faults.journal)

-- the clauses of `copy` and `resume` that speak of the answer, as they stand at the command
pub record HasClauses (told : Type 0) (file : Tree) (request : CopyRequest) (was now : Counters) (old new : Disk)
    (answer : Answer) : Type 0 where
  pub complete : CopyCompletes file request was.files now.files was.lines now.lines was.devices now.devices answer
  pub opened : IfOk (copying_said file request) (λ job. Tells (OpensFor job (old.reads Target) (old.reads Journal)) answer)
  pub copied : IfOk (copying_said file request) (λ job. Tells (RunIsDone job new) answer)
  pub outcome : IfOk (copying_said file request) (λ job. Tells (RunHasOutcome told (file job.source) job old) answer)
  pub unwritten : IsUnwritten answer → Looked old new

-- ---- its end
-- it is answered as done, with the numbers of a copy; every range is checked in the journal's only image, and the target is
-- settled
pub record IsCopied (job : CopyJob) (new : Disk) (answer : Answer) : Type 0 where
  pub units : ℕ
  pub written : ℕ
  pub kept : ℕ
  pub is : answer ≡ Done (Copied units written kept)
  pub done : IsDone job new

-- memory was refused, and nothing was written
pub record IsRefusedMemory (old new : Disk) (answer : Answer) : Type 0 where
  pub is : answer ≡ NoMemory
  pub looked : Looked old new

abbrev pub IsCompleted : CopyJob → Disk → Disk → Answer → Type 0
IsCompleted job old new answer = IsCopied job new answer ⊎ IsRefusedMemory old new answer
