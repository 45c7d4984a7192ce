-- What shows that a target isn't verified.
use Rattle.std.specs.Prelude.{◌≡◌, ◌≢◌, ◌<◌}
use Rattle.bench.specs.Meter.{Meter}
use Rattle.bench.specs.declared.Dev.TheVariants.{Target}
use Rattle.map_source.specs.Faults.{IsShown as IsMapShown}
use Rattle.outside.specs.Counts.{Counts, Rose}
use Rattle.verifier.specs.declared.faults.VerifyFault.{VerifyFault}
use Rattle.verifier.specs.declared.faults.VerifyFault.TheVariants as target
use Rattle.verify_job.specs.declared.faults.VerifyJobFault.{VerifyJobFault}
use Rattle.verify_job.specs.declared.faults.VerifyJobFault.TheVariants.{Map, TargetTooSmall, TargetDiffers}
use Rattle.verify_job.specs.declared.faults.VerifyJobFault.TheVariants.{DeviceFault, NoMemory}

-- what is wrong with the target, as what is wrong with the job
abbrev pub fault_of : VerifyFault → VerifyJobFault
fault_of (target.TargetTooSmall has needs) = TargetTooSmall has needs
fault_of (target.TargetDiffers range want got) = TargetDiffers range want got
fault_of (target.DeviceFault dev) = DeviceFault dev

-- by the counts of the files and of the target, and by two values that differ, told or not
abbrev pub IsShown : Counts → Counts → Meter → Meter → VerifyJobFault → Type 0
IsShown before now old new (Map fault) = IsMapShown before now fault
IsShown before now old new (TargetTooSmall has needs) = has < needs
IsShown before now old new (TargetDiffers range want got) = want ≢ got
IsShown before now old new (DeviceFault dev) = (dev ≡ Target) × Rose old.faults.target new.faults.target
IsShown before now old new NoMemory = Unit {0}
