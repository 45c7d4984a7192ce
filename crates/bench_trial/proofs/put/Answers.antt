use Rattle.bench.proofs.DiskLemmas.{looked_runs, runs_then}
use Rattle.bench_trial.proofs.Pairs.{put_runs}
use Rattle.bench_trial.proofs.put.Goals as goal

pub returns-in_err-write_at-2-clause-pairs : goal.returns-in_err-write_at-2-clause-pairs
returns-in_err-write_at-2-clause-pairs g c told =
    put_runs c.args.at c.args.bytes.now c.args.place c.write_at.ensures.touches (c.in_ok-write_at.ensures.wrote told)
    c.sync.ensures.looked c.in_ok-sync.ensures.settled c.write_at-2.ensures.touches

pub returns-in_err-sync-2-clause-pairs : goal.returns-in_err-sync-2-clause-pairs
returns-in_err-sync-2-clause-pairs g c told =
    let run = put_runs c.args.at c.args.bytes.now c.args.place c.write_at.ensures.touches (c.in_ok-write_at.ensures.wrote told)
    c.sync.ensures.looked c.in_ok-sync.ensures.settled c.write_at-2.ensures.touches in
    runs_then run (looked_runs c.sync-2.ensures.looked run.now)

pub returns-clause-pairs : goal.returns-clause-pairs
returns-clause-pairs g c told =
    let run = put_runs c.args.at c.args.bytes.now c.args.place c.write_at.ensures.touches (c.in_ok-write_at.ensures.wrote told)
    c.sync.ensures.looked c.in_ok-sync.ensures.settled c.write_at-2.ensures.touches in
    runs_then run (looked_runs c.sync-2.ensures.looked run.now)
