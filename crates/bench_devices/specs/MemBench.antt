-- What contracts see of a bench in memory.
use Rattle.std.specs.Prelude.{true, Some}
use Rattle.bench.specs.declared.Dev.TheVariants.{Target, Journal}
use Rattle.bench_devices.specs.declared.gate.Gate.{Gate}
use Rattle.bench_devices.specs.History.{Log, name_after, work_of}
use Rattle.bench.specs.Meter.{Meter}

-- what is counted of a bench in memory
abbrev pub meter_of : Gate → Log → Meter
meter_of gate log = record {
  faults = gate.faults;
  work = work_of gate.past log;
  attached = record { target = true; journal = true };
  name = record { target = name_after log.calls Target; journal = name_after log.calls Journal };
  room = Some log.room;
  sure = gate.sure;
}
