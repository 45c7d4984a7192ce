-- What is put, by the fields that contracts see.
use Rattle.std.proofs.Common.{subst}
use Rattle.std.specs.Prelude.{OnOk}
use Rattle.copy_stages.specs.Stages.{KeepsOwn}
use Rattle.copier.specs.Copiers.{Copying}
use Rattle.copier.specs.Runs.{PutGoesAlong, PutKeepsSince, PutKeepsWindow, StaysNear}
use Rattle.copier.proofs.copiers.Copier.put.Goals as goal

pub returns-clause-since : goal.returns-clause-since
returns-clause-since g c told =
    let a = g.B.Bench.disk c.args.bench.now in
    let b = g.B.Bench.disk c.put_next.new.bench in
    subst (λ (v : Copying). PutKeepsSince v.job v.progress c.args.k c.args.bytes.now a b) c.self.view_is (c.put_next.ensures.since told)

pub returns-clause-own : goal.returns-clause-own
returns-clause-own g c told =
    let a = g.B.Bench.disk c.args.bench.now in
    let b = g.B.Bench.disk c.put_next.new.bench in
    subst (λ (v : Copying). KeepsOwn v.job.id a b) c.self.view_is (c.put_next.ensures.own told)

pub returns-clause-window : goal.returns-clause-window
returns-clause-window g c told =
    let a = g.B.Bench.disk c.args.bench.now in
    let b = g.B.Bench.disk c.put_next.new.bench in
    subst (λ (v : Copying). OnOk c.put_next.result (PutKeepsWindow v.job v.progress c.put_next.new.progress c.args.k c.args.bytes.now a b)) c.self.view_is (c.put_next.ensures.window told)

pub returns-clause-along : goal.returns-clause-along
returns-clause-along g c told =
    let a = g.B.Bench.disk c.args.bench.now in
    let b = g.B.Bench.disk c.put_next.new.bench in
    subst (λ (v : Copying). OnOk c.put_next.result (PutGoesAlong v.job v.progress c.put_next.new.progress c.args.k c.args.bytes.now a b)) c.self.view_is (c.put_next.ensures.along told)

pub returns-clause-narrow : goal.returns-clause-narrow
returns-clause-narrow g c told =
    let a = g.B.Bench.disk c.args.bench.now in
    let b = g.B.Bench.disk c.put_next.new.bench in
    subst (λ (v : Copying). StaysNear v.job v.progress a b) c.self.view_is (c.put_next.ensures.narrow told)
