-- What contracts see of real devices.
use Rattle.std.specs.Prelude.{ℕ, List, Bool, Option, None, Some, false, is_some, option_map, string_bytes}
use Rattle.bench_devices.specs.declared.opening.Device.{Device}
use Rattle.bench.specs.Meter.{Both, Meter}

-- the name of a device, where it is attached
abbrev pub name_of : {F : Type 0} → Option (Device F) → Option (List ℕ)
name_of device = option_map (λ d. string_bytes d.name) device

-- whether a sync of a device has failed
abbrev pub lost_of : {F : Type 0} → Option (Device F) → Bool
lost_of None = false
lost_of (Some device) = device.lost

-- what is counted of real devices: how often each has failed, and the names under which they are attached
abbrev pub counted : Both ℕ → Option (List ℕ) → Option (List ℕ) → Meter
counted faults target journal = record {
  faults = faults;
  work = 0;
  attached = record { target = is_some target; journal = is_some journal };
  name = record { target = target; journal = journal };
  room = None;
  sure = false;
}
