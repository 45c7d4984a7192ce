use Rattle.bench.specs.Meter.{SameNames}
use Rattle.scenario_copies.specs.Ready.{IsReady}
use Rattle.scenario_copies.proofs.running.run_on.Given as goal

-- between two steps
abbrev pub invariant-loop : goal.invariant-loop
invariant-loop g l =
    let bench = g.B.Bench in
    record {
      ready : IsReady bench.told (bench.meter l.bench) (bench.disk l.bench) l.job l.copier l.pool;
      same_names : SameNames (bench.meter l.fn.bench) (bench.meter l.bench);
    }
