-- Why nothing is copied.
use Rattle.std.specs.Prelude.{◌≡◌, ◌≢◌, ◌<◌, Bool, true, false}
use Rattle.bench.specs.Meter.{Meter}
use Rattle.block_map.specs.Units.{max_units}
use Rattle.copy_journal.specs.Faults.{HasFailed}
use Rattle.map_source.specs.Faults.{IsShown as IsMapShown, is_counted as is_counted_map}
use Rattle.outside.specs.Counts.{Counts, Rose}
use Rattle.copier.specs.declared.faults.CopyFault.TheVariants as run
use Rattle.copy_job.specs.declared.faults.CopyJobFault.{CopyJobFault}
use Rattle.copy_job.specs.declared.faults.CopyJobFault.TheVariants.{Compressed, Missing, FileFault, Map, TooManyUnits, DeviceFault, Copy, NoMemory}

-- ---- before the copy is opened
-- a call failed or memory was refused
abbrev pub is_counted : CopyJobFault → Bool
is_counted Compressed = false
is_counted Missing = false
is_counted FileFault = true
is_counted (Map fault) = is_counted_map fault
is_counted (TooManyUnits count limit) = false
is_counted (DeviceFault dev) = true
is_counted (Copy fault) = true
is_counted NoMemory = true

-- by the counts of the files and of the devices, told or not
abbrev pub IsShown : Counts → Counts → Meter → Meter → CopyJobFault → Type 0
IsShown before now old new Compressed = Unit {0}
IsShown before now old new Missing = Rose before.absences now.absences
IsShown before now old new FileFault = Rose before.faults now.faults
IsShown before now old new (Map fault) = IsMapShown before now fault
IsShown before now old new (TooManyUnits count limit) = (limit ≡ max_units) × (limit < count)
IsShown before now old new (DeviceFault dev) = HasFailed dev old new
IsShown before now old new (Copy (run.TargetTooSmall has needs)) = has < needs
IsShown before now old new (Copy (run.JournalHeld kept finished)) = Unit {0}
IsShown before now old new (Copy run.NoJournal) = Unit {0}
IsShown before now old new (Copy (run.JournalForeign kept given len)) = Unit {0}
IsShown before now old new (Copy (run.SourceShort at)) = Rose before.ends now.ends
IsShown before now old new (Copy run.Missing) = Rose before.absences now.absences
IsShown before now old new (Copy run.FileFault) = Rose before.faults now.faults
IsShown before now old new (Copy (run.DeviceFault dev)) = HasFailed dev old new
IsShown before now old new (Copy (run.RangeDiffers range want got)) = want ≢ got
IsShown before now old new (Copy run.NoMemory) = Unit {0}
IsShown before now old new NoMemory = Unit {0}
