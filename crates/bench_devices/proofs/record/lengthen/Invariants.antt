use Rattle.std.proofs.Common.{◌≡◌, ◌++◌, replicate}
use Rattle.bench_devices.proofs.record.lengthen.Given as goal

abbrev pub invariant-loop : goal.invariant-loop
invariant-loop l = l.bytes.items ≡ l.fn.bytes.items ++ replicate l.counter 0
