-- What a copier is that was opened.
use Rattle.std.specs.Prelude.{◌≡◌, ℕ, List, Option, Ok, Err}
use Rattle.bench.specs.Disk.{Disk}
use Rattle.copy_opening.specs.Openings.{start_of}
use Rattle.copy_opening.specs.declared.opening.Mode.TheVariants.{Fresh}
use Rattle.copier_course.specs.Courses.{IsAtFirst}
use Rattle.copier_course.specs.declared.courses.Course.{Course}
use Rattle.copier_course.specs.declared.jobs.CopyJob.{CopyJob}
use Rattle.copier_moves.specs.Moves.{IsAlong}
use Rattle.copier.specs.Copiers.{CameAlong, Copying, Fits, Progress}

-- it is at the first unit of the first range that isn't checked, and no unit is in its window; one that is opened anew
-- has the job's window
pub record Begins (job : CopyJob) (c : Course) : Type 0 where
  pub first : IsAtFirst job c
  pub window : job.mode ≡ Fresh → c.window ≡ job.window

abbrev pub BeginsIn : CopyJob → Progress → Type 0
BeginsIn job (Ok course) = Begins job course
BeginsIn job (Err fault) = ⊥

-- so it is of a copier of this job, which hasn't refused
pub record HasBegun (job : CopyJob) (copier : Copying) : Type 0 where
  pub of_job : copier.job ≡ job
  pub begins : BeginsIn job copier.progress

-- a course is along for the pair that its devices read at the opening, whatever the source is
abbrev pub StartsAlong : CopyJob → Course → Disk → Disk → Type 0
StartsAlong job c old new = (source : Option (List ℕ)) → IsAlong job source (start_of old) c new

-- so is the copier
abbrev pub OpensAlong : Disk → Disk → Copying → Type 0
OpensAlong old new copier = (source : Option (List ℕ)) → CameAlong copier.job copier.progress source (start_of old) new

-- and it fits them
abbrev pub OpensFitting : Disk → Copying → Type 0
OpensFitting new copier = Fits copier.job copier.progress new
