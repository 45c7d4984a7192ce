-- Why a run of a copier isn't done, by counts and by what the job says, told or not.
use Rattle.std.specs.Prelude.{◌≡◌, ◌≢◌, ℕ, ◌+◌, ◌*◌, ◌<◌, List, Some}
use Rattle.bench.specs.declared.Dev.TheVariants.{Target}
use Rattle.bench.specs.Disk.{Disk}
use Rattle.bench.specs.Meter.{Meter}
use Rattle.block_map.specs.Maps.{digest_in}
use Rattle.block_map.specs.declared.maps.Range.{Range}
use Rattle.outside.specs.Counts.{Counts, Rose}
use Rattle.copy_journal.specs.Faults.{HasFailed}
use Rattle.copy_opening.specs.declared.opening.Mode.TheVariants.{Fresh, Again}
use Rattle.copy_states.specs.Jobs.{IsRangeAt}
use Rattle.copier.specs.declared.faults.CopyFault.{CopyFault}
use Rattle.copier.specs.declared.faults.CopyFault.TheVariants.{TargetTooSmall, JournalHeld, NoJournal, JournalForeign, SourceShort, Missing, FileFault, DeviceFault, RangeDiffers, NoMemory}
use Rattle.copier_course.specs.declared.jobs.CopyJob.{CopyJob}
use Rattle.verifier.specs.Checks.{mapped_bytes}

-- range r has the wanted digest in the map, and the target's bytes have another
pub record IsDifference (told : Type 0) (job : CopyJob) (r : ℕ) (want got : List ℕ) (disk : Disk) : Type 0 where
  pub range : Range
  pub is : IsRangeAt job.map r range
  pub stated : range.digest ≡ Some want
  pub computed : told → got ≡ digest_in job.map (disk.reads Target) range
  pub differs : want ≢ got

abbrev pub IsRunFault : Type 0 → CopyJob → Disk → Counts → Counts → Meter → Meter → CopyFault → Type 0
IsRunFault told job disk before now old new (TargetTooSmall has needs) = (needs ≡ job.map.size) × (has < needs)
IsRunFault told job disk before now old new (JournalHeld kept finished) = job.mode ≡ Fresh
IsRunFault told job disk before now old new NoJournal = job.mode ≡ Again
IsRunFault told job disk before now old new (JournalForeign kept given len) = job.mode ≡ Again
IsRunFault told job disk before now old new (SourceShort at) = Rose before.ends now.ends
IsRunFault told job disk before now old new Missing = Rose before.absences now.absences
IsRunFault told job disk before now old new FileFault = Rose before.faults now.faults
IsRunFault told job disk before now old new (DeviceFault dev) = HasFailed dev old new
IsRunFault told job disk before now old new (RangeDiffers range want got) = IsDifference told job range want got disk
IsRunFault told job disk before now old new NoMemory = Unit {0}

-- the most work of a run: for each unit and each range, and the mapped bytes
abbrev pub most_work : CopyJob → ℕ
most_work job = 5120 + 1100 * job.id.units + 1100 * job.id.ranges + mapped_bytes job.map
