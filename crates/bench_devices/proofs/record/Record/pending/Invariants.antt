use Rattle.std.proofs.Common.{◌≡◌, ◌≤◌, take}
use Rattle.bench_devices.specs.Leaving.{pending_of}
use Rattle.bench_devices.specs.Record.{calls_of}
use Rattle.bench_devices.proofs.record.Record.pending.Given as goal

abbrev pub invariant-loop-k : goal.invariant-loop-k
invariant-loop-k l = record {
  below : l.number ≤ l.k;
  number : l.number ≡ pending_of (record { target = l.choice.target; journal = l.choice.journal }) (calls_of l.self-inside.bytes.items l.self-inside.found.items (take l.k l.self-inside.entries.items));
}
