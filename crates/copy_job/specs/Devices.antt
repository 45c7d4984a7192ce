-- The two devices of a copy: their names, and the work that it makes them.
use Rattle.std.specs.Prelude.{◌≡◌, ◌⊎◌, ◌↔◌, ℕ, ◌+◌, ◌*◌, ◌<◌, ◌≤◌, List, length, Bool, IsTrue, Some, Result, Ok, Err, slice_index}
use Rattle.bench.specs.Disk.{Disk, IsSettled}
use Rattle.bench.specs.Meter.{Costs, IsAttached, Meter, of_device}
use Rattle.bench.specs.declared.Dev.{Dev}
use Rattle.bench.specs.declared.Dev.TheVariants.{Target, Journal}
use Rattle.copier_course.specs.Courses.{IsCopyJob}
use Rattle.copier_course.specs.declared.jobs.CopyJob.{CopyJob}
use Rattle.journal_format.specs.Journals.{IsHeld}
use Rattle.verifier.specs.Checks.{mapped_bytes}
use Rattle.copy_job.specs.declared.faults.CopyJobFault.{CopyJobFault}
use Rattle.copy_job.specs.declared.requests.CopyRequest.{CopyRequest}

-- ---- names
-- it is attached and named as before
pub record IsNamedAsBefore (dev : Dev) (old new : Meter) : Type 0 where
  pub attached : of_device dev new.attached ≡ of_device dev old.attached
  pub name : of_device dev new.name ≡ of_device dev old.name

-- it is attached under this name
pub record IsAttachedAs (dev : Dev) (given : List ℕ) (meter : Meter) : Type 0 where
  pub attached : IsAttached meter dev
  pub name : of_device dev meter.name ≡ Some given

-- it is attached under its word, or as before
abbrev pub AttachedOr : Dev → List ℕ → Meter → Meter → Type 0
AttachedOr dev word old new = IsAttachedAs dev word new ⊎ IsNamedAsBefore dev old new

pub record AreNamed (request : CopyRequest) (old new : Meter) : Type 0 where
  pub target : AttachedOr Target request.target old new
  pub journal : AttachedOr Journal request.journal old new

-- ---- work
-- the most work of a copy: for each unit and each range, the mapped bytes, and the bytes of the two words
abbrev pub most_work : CopyRequest → CopyJob → ℕ
most_work request job = 8192 + length request.target + length request.journal + 1100 * job.id.units + 1100 * job.id.ranges
    + mapped_bytes job.map

-- that of the job that is said, and none where there is no job
abbrev pub work_said : CopyRequest → Result CopyJob CopyJobFault → ℕ
work_said request (Ok job) = most_work request job
work_said request (Err refusal) = 0

-- some job bounds the work
pub record IsBounded (request : CopyRequest) (old new : Meter) : Type 0 where
  pub job : CopyJob
  pub holds : IsCopyJob job
  pub costs : Costs (most_work request job) old new

-- ---- a journal that is forgotten
-- no image of the journal is held; but for byte 8 it reads as before, and so does the target
pub record IsForgotten (old new : Disk) : Type 0 where
  pub closed : (image : List ℕ) → new.leaves Journal image → ¬ IsHeld image
  pub size : length (new.reads Journal) ≡ length (old.reads Journal)
  pub others : (k : ℕ) → ((k < 8) ⊎ (9 ≤ k)) → slice_index (new.reads Journal) k ≡ slice_index (old.reads Journal) k
  pub target : new.reads Target ≡ old.reads Target
  pub settled : IsSettled new Journal

-- it was held exactly where the answer says so
abbrev pub WasHeld : Disk → Bool → Type 0
WasHeld old was = IsTrue was ↔ IsHeld (old.reads Journal)
