use Rattle.bench.specs.Meter.{SameNames}
use Rattle.scenario_copies.specs.Ready.{IsReady}
use Rattle.scenario_copies.proofs.running.act_all.Given as goal

-- between two acts
abbrev pub invariant-loop-act : goal.invariant-loop-act
invariant-loop-act g l =
    let bench = g.B.Bench in
    record {
      ready : IsReady bench.told (bench.meter l.bench) (bench.disk l.bench) l.job l.copier l.pool;
      same_names : SameNames (bench.meter l.fn.bench) (bench.meter l.bench);
    }
