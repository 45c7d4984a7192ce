-- The devices of a command: the names that they may have, and those that they have afterwards.
use Rattle.std.specs.Prelude.{◌⊎◌, ℕ, List, Option, Some, None}
use Rattle.std.specs.Option.{ForSome}
use Rattle.bench.specs.Meter.{HasNoOther, Meter}
use Rattle.bench.specs.declared.Dev.{Dev}
use Rattle.bench.specs.declared.Dev.TheVariants.{Journal, Target}
use Rattle.copy_job.specs.Devices.{IsAttachedAs, IsNamedAsBefore}
use Rattle.device_commands.specs.declared.names.DeviceNames.{DeviceNames}

-- each device has no name or the command's
pub record MayAttach (names : DeviceNames) (meter : Meter) : Type 0 where
  pub target : ForSome names.target (HasNoOther meter Target)
  pub journal : ForSome names.journal (HasNoOther meter Journal)

abbrev pub named : Option (List ℕ) → Option (List ℕ) → DeviceNames
named target journal = record { target = target; journal = journal }

abbrev pub attached_by : Dev → Option (List ℕ) → Meter → Meter → Type 0
attached_by dev None old new = IsNamedAsBefore dev old new
attached_by dev (Some given) old new = IsAttachedAs dev given new ⊎ IsNamedAsBefore dev old new

-- each device of the command is attached under its name, or as before; the others are as before
pub record AreAttached (names : DeviceNames) (old new : Meter) : Type 0 where
  pub target : attached_by Target names.target old new
  pub journal : attached_by Journal names.journal old new
