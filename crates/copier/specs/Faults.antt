-- Why a copier refuses. Of bytes something is said where they are told; a count is that of a device, or of the files.
use Rattle.std.specs.Prelude.{◌≡◌, ℕ, ◌<◌, ◌≤◌, List, length}
use Rattle.bench.specs.declared.Dev.TheVariants.{Journal}
use Rattle.bench.specs.Disk.{Disk}
use Rattle.bench.specs.Meter.{Meter}
use Rattle.outside.specs.Counts.{Counts, Rose}
use Rattle.journal_format.specs.Journals.{IsHeld}
use Rattle.copy_journal.specs.Faults.{HasFailed, IsForeign, IsHeldBy}
use Rattle.copy_opening.specs.declared.faults.OpenFault.{OpenFault}
use Rattle.copy_opening.specs.declared.faults.OpenFault.TheVariants as opening
use Rattle.copy_opening.specs.declared.opening.Mode.TheVariants.{Fresh, Again}
use Rattle.copier_course.specs.Courses.{need_of}
use Rattle.copier_course.specs.declared.courses.Course.{Course}
use Rattle.copier_course.specs.declared.jobs.CopyJob.{CopyJob}
use Rattle.copier_course.specs.declared.jobs.Need.TheVariants as need
use Rattle.copier_moves.specs.Moves.{IsDiffering, NoneRecorded}
use Rattle.copier_moves.specs.declared.faults.EndFault.{EndFault}
use Rattle.copier_moves.specs.declared.faults.EndFault.TheVariants as ending
use Rattle.copier.specs.declared.faults.CopyFault.{CopyFault}
use Rattle.copier.specs.declared.faults.CopyFault.TheVariants.{TargetTooSmall, JournalHeld, NoJournal, JournalForeign, SourceShort, Missing, FileFault, DeviceFault, RangeDiffers, NoMemory}

-- ---- the refusals of the parts, as the copier's
abbrev pub of_opening : OpenFault → CopyFault
of_opening (opening.TargetTooSmall has needs) = TargetTooSmall has needs
of_opening (opening.JournalHeld kept finished) = JournalHeld kept finished
of_opening opening.NoJournal = NoJournal
of_opening (opening.JournalForeign kept given len) = JournalForeign kept given len
of_opening (opening.DeviceFault dev) = DeviceFault dev
of_opening opening.NoMemory = NoMemory

abbrev pub of_ending : EndFault → CopyFault
of_ending (ending.DeviceFault dev) = DeviceFault dev
of_ending (ending.RangeDiffers range want got) = RangeDiffers range want got

-- ---- why a copier isn't opened: t and j are what target and journal read
abbrev pub IsOpenFault : Type 0 → CopyJob → List ℕ → List ℕ → Meter → Meter → CopyFault → Type 0
IsOpenFault told job t j old new (TargetTooSmall has needs) =
    (needs ≡ job.map.size) × (has < job.map.size) × (told → has ≡ length t)
IsOpenFault told job t j old new (JournalHeld kept finished) =
    (job.mode ≡ Fresh) × (told → IsHeldBy job.id j kept finished × (job.map.size ≤ length t))
IsOpenFault told job t j old new NoJournal =
    (job.mode ≡ Again) × (told → (¬ IsHeld j) × (job.map.size ≤ length t))
IsOpenFault told job t j old new (JournalForeign kept given len) =
    (job.mode ≡ Again) × (told → IsForeign job.id j kept given len × (job.map.size ≤ length t))
IsOpenFault told job t j old new (SourceShort at) = ⊥
IsOpenFault told job t j old new Missing = ⊥
IsOpenFault told job t j old new FileFault = ⊥
IsOpenFault told job t j old new (DeviceFault dev) =
    HasFailed dev old new × (dev ≡ Journal → told → job.map.size ≤ length t)
IsOpenFault told job t j old new (RangeDiffers range want got) = ⊥
IsOpenFault told job t j old new NoMemory = Unit {0}

-- a refusal of an opening before which nothing was written: any but that of a device
abbrev pub IsUnwritten : CopyFault → Type 0
IsUnwritten (TargetTooSmall has needs) = Unit {0}
IsUnwritten (JournalHeld kept finished) = Unit {0}
IsUnwritten NoJournal = Unit {0}
IsUnwritten (JournalForeign kept given len) = Unit {0}
IsUnwritten (SourceShort at) = ⊥
IsUnwritten Missing = ⊥
IsUnwritten FileFault = ⊥
IsUnwritten (DeviceFault dev) = ⊥
IsUnwritten (RangeDiffers range want got) = ⊥
IsUnwritten NoMemory = Unit {0}

-- ---- why a unit isn't read: the source isn't there, or ends within the unit, or a call failed
abbrev pub IsReadFault : Counts → Counts → CopyFault → Type 0
IsReadFault before after (TargetTooSmall has needs) = ⊥
IsReadFault before after (JournalHeld kept finished) = ⊥
IsReadFault before after NoJournal = ⊥
IsReadFault before after (JournalForeign kept given len) = ⊥
IsReadFault before after (SourceShort at) = Rose before.ends after.ends
IsReadFault before after Missing = Rose before.absences after.absences
IsReadFault before after FileFault = Rose before.faults after.faults
IsReadFault before after (DeviceFault dev) = ⊥
IsReadFault before after (RangeDiffers range want got) = ⊥
IsReadFault before after NoMemory = ⊥

-- ---- why a unit isn't put: a call on that device has failed
abbrev pub IsPutFault : Meter → Meter → CopyFault → Type 0
IsPutFault old new (TargetTooSmall has needs) = ⊥
IsPutFault old new (JournalHeld kept finished) = ⊥
IsPutFault old new NoJournal = ⊥
IsPutFault old new (JournalForeign kept given len) = ⊥
IsPutFault old new (SourceShort at) = ⊥
IsPutFault old new Missing = ⊥
IsPutFault old new FileFault = ⊥
IsPutFault old new (DeviceFault dev) = HasFailed dev old new
IsPutFault old new (RangeDiffers range want got) = ⊥
IsPutFault old new NoMemory = ⊥

-- ---- why a unit isn't kept or a range not ended: or the present range's two digests differ, which was to be ended
abbrev pub IsKeepFault : Type 0 → CopyJob → Course → Disk → Meter → Meter → CopyFault → Type 0
IsKeepFault told job c disk old new (TargetTooSmall has needs) = ⊥
IsKeepFault told job c disk old new (JournalHeld kept finished) = ⊥
IsKeepFault told job c disk old new NoJournal = ⊥
IsKeepFault told job c disk old new (JournalForeign kept given len) = ⊥
IsKeepFault told job c disk old new (SourceShort at) = ⊥
IsKeepFault told job c disk old new Missing = ⊥
IsKeepFault told job c disk old new FileFault = ⊥
IsKeepFault told job c disk old new (DeviceFault dev) = HasFailed dev old new
IsKeepFault told job c disk old new (RangeDiffers range want got) =
    (need_of job c ≡ need.Range range) × IsDiffering told job c range want got disk
IsKeepFault told job c disk old new NoMemory = ⊥

-- ---- why a step isn't done: or the source's file refuses the present unit, which was to be written
abbrev pub IsStepFault : Type 0 → CopyJob → Course → Disk → Counts → Counts → Meter → Meter → CopyFault → Type 0
IsStepFault told job c disk before after old new (TargetTooSmall has needs) = ⊥
IsStepFault told job c disk before after old new (JournalHeld kept finished) = ⊥
IsStepFault told job c disk before after old new NoJournal = ⊥
IsStepFault told job c disk before after old new (JournalForeign kept given len) = ⊥
IsStepFault told job c disk before after old new (SourceShort at) =
    (need_of job c ≡ need.Unit c.unit) × Rose before.ends after.ends
IsStepFault told job c disk before after old new Missing =
    (need_of job c ≡ need.Unit c.unit) × Rose before.absences after.absences
IsStepFault told job c disk before after old new FileFault =
    (need_of job c ≡ need.Unit c.unit) × Rose before.faults after.faults
IsStepFault told job c disk before after old new (DeviceFault dev) = HasFailed dev old new
IsStepFault told job c disk before after old new (RangeDiffers range want got) =
    (need_of job c ≡ need.Range range) × IsDiffering told job c range want got disk
IsStepFault told job c disk before after old new NoMemory = ⊥

-- ---- after a difference no image of the journal has a unit of the range recorded, or the range checked
abbrev pub NoneIsLeft : CopyJob → Disk → CopyFault → Type 0
NoneIsLeft job disk (TargetTooSmall has needs) = Unit {0}
NoneIsLeft job disk (JournalHeld kept finished) = Unit {0}
NoneIsLeft job disk NoJournal = Unit {0}
NoneIsLeft job disk (JournalForeign kept given len) = Unit {0}
NoneIsLeft job disk (SourceShort at) = Unit {0}
NoneIsLeft job disk Missing = Unit {0}
NoneIsLeft job disk FileFault = Unit {0}
NoneIsLeft job disk (DeviceFault dev) = Unit {0}
NoneIsLeft job disk (RangeDiffers range want got) = (j : List ℕ) → disk.leaves Journal j → NoneRecorded job range j
NoneIsLeft job disk NoMemory = Unit {0}
