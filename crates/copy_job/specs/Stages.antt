-- What the stages of a copy give.
use Rattle.std.specs.Prelude.{◌≡◌}
use Rattle.bench.specs.Meter.{Meter}
use Rattle.bench.specs.declared.Dev.TheVariants.{Target, Journal}
use Rattle.copier_course.specs.declared.jobs.CopyJob.{CopyJob}
use Rattle.copy_job.specs.Devices.{IsAttachedAs}
use Rattle.copy_job.specs.declared.faults.CopyJobFault.{CopyJobFault}
use Rattle.copy_job.specs.declared.faults.CopyJobFault.TheVariants.{Compressed, Missing, FileFault, Map, TooManyUnits, DeviceFault, Copy, NoMemory}
use Rattle.copy_job.specs.declared.requests.CopyRequest.{CopyRequest}

-- a refusal before anything is asked of the devices
abbrev pub IsEarly : CopyJobFault → Type 0
IsEarly Compressed = Unit {0}
IsEarly Missing = Unit {0}
IsEarly FileFault = Unit {0}
IsEarly (Map fault) = Unit {0}
IsEarly (TooManyUnits count limit) = Unit {0}
IsEarly (DeviceFault dev) = ⊥
IsEarly (Copy fault) = ⊥
IsEarly NoMemory = Unit {0}

-- a refusal once something is
abbrev pub IsLate : CopyJobFault → Type 0
IsLate Compressed = ⊥
IsLate Missing = ⊥
IsLate FileFault = ⊥
IsLate (Map fault) = ⊥
IsLate (TooManyUnits count limit) = ⊥
IsLate (DeviceFault dev) = Unit {0}
IsLate (Copy fault) = Unit {0}
IsLate NoMemory = ⊥

-- a job is copied as its words say
pub record IsOfRequest (request : CopyRequest) (job : CopyJob) : Type 0 where
  pub unit : job.id.unit ≡ request.unit
  pub mode : job.mode ≡ request.mode
  pub window : job.window ≡ request.window

-- both devices are attached under their words
pub record AreAttached (request : CopyRequest) (meter : Meter) : Type 0 where
  pub target : IsAttachedAs Target request.target meter
  pub journal : IsAttachedAs Journal request.journal meter
