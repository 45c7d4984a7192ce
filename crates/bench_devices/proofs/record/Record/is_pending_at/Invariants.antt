use Rattle.std.proofs.Common.{◌≡◌, take}
use Rattle.bench_devices.specs.Leaving.{is_pending_at}
use Rattle.bench_devices.specs.Record.{calls_of}
use Rattle.bench_devices.proofs.record.Record.is_pending_at.Given as goal

abbrev pub invariant-loop-k : goal.invariant-loop-k
invariant-loop-k l = l.any ≡ is_pending_at (record { target = l.choice.target; journal = l.choice.journal }) l.dev l.at (calls_of l.self-inside.bytes.items l.self-inside.found.items (take l.k l.self-inside.entries.items))
