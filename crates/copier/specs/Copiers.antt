-- What contracts see of a copier, what it is to do next, and what it has to do with its two devices.
use Rattle.std.specs.Prelude.{ℕ, List, [], Option, Result, Ok, Err, IfOk}
use Rattle.bench.specs.declared.Dev.TheVariants.{Target}
use Rattle.bench.specs.Disk.{Disk}
use Rattle.region_pool.specs.Buffers.{Held}
use Rattle.copy_states.specs.Starts.{Pair}
use Rattle.copy_laws.specs.Marks.{AreCopied}
use Rattle.copier_course.specs.Courses.{IsCopyJob, IsCourse, need_of}
use Rattle.copier_course.specs.declared.courses.Course.{Course}
use Rattle.copier_course.specs.declared.jobs.CopyJob.{CopyJob}
use Rattle.copier_course.specs.declared.jobs.Need.{Need}
use Rattle.copier_course.specs.declared.jobs.Need.TheVariants as need
use Rattle.copier_moves.specs.Fitting.{IsFitting}
use Rattle.copier_moves.specs.Moves.{IsAlong}
use Rattle.copier.specs.declared.faults.CopyFault.{CopyFault}

-- how far a copier has come, or what it has refused
abbrev pub Progress : Type 0
Progress = Result Course CopyFault

-- a copier: its job, how far it has come, and the lease of its buffer
pub record Copying : Type 0 where
  pub job : CopyJob
  pub progress : Progress
  pub lease : Held

-- What holds of each copier: its job is one, and where it hasn't refused its position is one of a copier's.
pub record IsSound (job : CopyJob) (progress : Progress) : Type 0 where
  pub of_job : IsCopyJob job
  pub course : IfOk progress (IsCourse job)

-- what is to be done next
abbrev pub next_of : CopyJob → Progress → Need
next_of job (Ok course) = need_of job course
next_of job (Err fault) = need.Failed

-- the numbers of the units of the open window: a copier that has refused has none
abbrev pub open_window : Progress → List ℕ
open_window (Ok course) = course.pending
open_window (Err fault) = []

-- the copier fits its devices; one that has refused always does
abbrev pub Fits : CopyJob → Progress → Disk → Type 0
Fits job (Ok course) disk = IsFitting job course disk
Fits job (Err fault) disk = Unit {0}

-- the copier has come along from this start; one that has refused has come from none
abbrev pub CameAlong : CopyJob → Progress → Option (List ℕ) → Pair → Disk → Type 0
CameAlong job (Ok course) source start disk = IsAlong job source start course disk
CameAlong job (Err fault) source start disk = ⊥

-- the units of the open window read on the target as the source's bytes, where these are told
abbrev pub WindowReads : CopyJob → Progress → Option (List ℕ) → Disk → Type 0
WindowReads job progress source disk = AreCopied job.id job.map source (open_window progress) (disk.reads Target)
