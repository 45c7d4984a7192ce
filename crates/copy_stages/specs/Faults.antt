-- Why a stage of a copier refuses.
use Rattle.std.specs.Prelude.{◌≡◌}
use Rattle.bench.specs.declared.Dev.{Dev}
use Rattle.bench.specs.Meter.{Meter}
use Rattle.copy_journal.specs.Faults.{HasFailed}
use Rattle.copy_stages.specs.declared.faults.DeviceFault.{DeviceFault}

-- a call on the device that is told has failed
abbrev pub IsCause : Meter → Meter → DeviceFault → Type 0
IsCause old new fault = HasFailed fault.dev old new

-- that device is this one
pub record IsCauseOn (dev : Dev) (old new : Meter) (fault : DeviceFault) : Type 0 where
  pub told : fault.dev ≡ dev
  pub failed : HasFailed dev old new
