use Rattle.std.proofs.Common.{◌≡◌, take}
use Rattle.bench_devices.specs.Leaving.{settled_of}
use Rattle.bench_devices.specs.Record.{calls_of}
use Rattle.bench_devices.proofs.record.Record.settled.Given as goal

abbrev pub invariant-loop-k : goal.invariant-loop-k
invariant-loop-k l = l.last ≡ settled_of (calls_of l.self-inside.bytes.items l.self-inside.found.items (take l.k l.self-inside.entries.items)) l.dev
