use Rattle.std.proofs.Common.{◌≡◌, ◌≤◌, take}
use Rattle.bench_devices.specs.History.{reads_of}
use Rattle.bench_devices.specs.Leaving.{pending_of, image_of}
use Rattle.bench_devices.specs.Record.{calls_of}
use Rattle.bench_devices.proofs.record.Record.image.Given as goal

abbrev pub invariant-loop-k : goal.invariant-loop-k
invariant-loop-k l = record {
  below : l.number ≤ l.k;
  number : l.number ≡ pending_of (record { target = l.choice.target; journal = l.choice.journal }) (calls_of l.self-inside.bytes.items l.self-inside.found.items (take l.k l.self-inside.entries.items));
  reads : l.reads.items ≡ reads_of (record { target = l.first; journal = l.first }) (calls_of l.self-inside.bytes.items l.self-inside.found.items (take l.k l.self-inside.entries.items)) l.dev;
  image : l.image.items ≡ image_of (record { target = l.first; journal = l.first }) (record { target = l.choice.target; journal = l.choice.journal }) l.keep l.choice.most l.dev (calls_of l.self-inside.bytes.items l.self-inside.found.items (take l.k l.self-inside.entries.items));
}
