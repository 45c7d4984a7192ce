-- That a copier fits its two devices, by what both hold now.
use Rattle.std.specs.Prelude.{◌≡◌, ℕ, ◌+◌, ◌-◌, ◌≤◌, List, [], length, take, drop, Some, slice_index_or}
use Rattle.bench.specs.declared.Dev.TheVariants.{Target, Journal}
use Rattle.bench.specs.Disk.{Disk, IsSettled}
use Rattle.sha2.specs.Hashers.{Holds256}
use Rattle.block_map.specs.Maps.{parts_of}
use Rattle.block_map.specs.declared.maps.Range.{Range}
use Rattle.journal_format.specs.Journals.{IsOpenedFor, window_of}
use Rattle.journal_format.specs.declared.jobs.JobId.{JobId}
use Rattle.copy_states.specs.Jobs.{IsRangeAt}
use Rattle.copy_laws.specs.Writes.{UnitsTorn}
use Rattle.copier_course.specs.Courses.{first_in, rows_in}
use Rattle.copier_course.specs.declared.courses.Course.{Course}
use Rattle.copier_course.specs.declared.jobs.CopyJob.{CopyJob}

-- the marks and the window that it keeps are the journal's
pub record KeepsMarks (id : JobId) (j : List ℕ) (c : Course) : Type 0 where
  pub units : c.units ≡ take id.units (drop 80 j)
  pub ranges : c.ranges ≡ take id.ranges (drop (80 + id.units) j)
  pub window : c.window ≡ window_of j

-- the bytes that an image has in the units of range r before unit k
abbrev pub bytes_before : CopyJob → ℕ → ℕ → List ℕ → List ℕ
bytes_before job r k t = parts_of (take (k - first_in job r) (slice_index_or (rows_in job) r [])) t

-- where the present range has a digest, the hash holds these bytes of the target before the present unit
abbrev pub IsHashed : CopyJob → Course → List ℕ → Type 0
IsHashed job c t = (range : Range) (want : List ℕ) → IsRangeAt job.map c.range range → range.digest ≡ Some want →
    Holds256 c.hash (bytes_before job c.range c.unit t)

-- The target has room for the image, and each image of it is what it reads but for the units of the window. The
-- journal is settled and opened for the job, with the marks that the copier keeps, so that no unit of its window is
-- recorded. And the hash holds what the target reads.
pub record IsFitting (job : CopyJob) (c : Course) (disk : Disk) : Type 0 where
  pub room : job.map.size ≤ length (disk.reads Target)
  pub images : (image : List ℕ) → disk.leaves Target image →
      UnitsTorn job.id job.map c.pending (disk.reads Target) image
  pub settled : IsSettled disk Journal
  pub opened : IsOpenedFor job.id (disk.reads Journal)
  pub marks : KeepsMarks job.id (disk.reads Journal) c
  pub hashed : IsHashed job c (disk.reads Target)
