use Rattle.bench_devices.proofs.TearPlaces.{IsPlace}
use Rattle.bench_devices.proofs.record.place_of.Given as goal

abbrev pub invariant-loop-k : goal.invariant-loop-k
invariant-loop-k l = IsPlace (record { target = l.choice.target; journal = l.choice.journal }) l.dev l.at l.bytes l.entries l.k l.place
