use Rattle.std.proofs.Common.{◌≡◌, ◌≤◌, ◌++◌, replicate, vec_capacity}
use Rattle.bench_devices.proofs.mem_bench.add_zeros.Given as goal

abbrev pub invariant-loop : goal.invariant-loop
invariant-loop l = record {
  items : l.bytes.items ≡ l.fn.bytes.items ++ replicate l.counter 0;
  room : vec_capacity l.fn.bytes ≤ vec_capacity l.bytes;
}
