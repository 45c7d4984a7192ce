-- What is kept, by the fields that contracts see.
use Rattle.std.proofs.Common.{subst}
use Rattle.std.specs.Prelude.{OnOk}
use Rattle.copy_stages.specs.Stages.{KeepsOwn}
use Rattle.copier_moves.specs.Moves.{MovingKeepsSince}
use Rattle.copier.specs.Copiers.{Copying}
use Rattle.copier.specs.Ends.{KeepEnds}
use Rattle.copier.specs.Runs.{ClearsTheRange, GoesAlong, HasKeepCause, KeepsWindow, ShowsDone, StaysNear}
use Rattle.copier.proofs.copiers.Copier.keep.Goals as goal

pub returns-clause-since : goal.returns-clause-since
returns-clause-since g c told =
    let a = g.B.Bench.disk c.args.bench.now in
    let b = g.B.Bench.disk c.keep_next.new.bench in
    subst (λ (v : Copying). MovingKeepsSince v.job a b) c.self.view_is (c.keep_next.ensures.since told)

pub returns-clause-own : goal.returns-clause-own
returns-clause-own g c told =
    let a = g.B.Bench.disk c.args.bench.now in
    let b = g.B.Bench.disk c.keep_next.new.bench in
    subst (λ (v : Copying). KeepsOwn v.job.id a b) c.self.view_is (c.keep_next.ensures.own told)

pub returns-clause-along : goal.returns-clause-along
returns-clause-along g c told =
    let a = g.B.Bench.disk c.args.bench.now in
    let b = g.B.Bench.disk c.keep_next.new.bench in
    subst (λ (v : Copying). OnOk c.keep_next.result (GoesAlong v.job v.progress c.keep_next.new.progress a b)) c.self.view_is (c.keep_next.ensures.along told)

pub returns-clause-ends : goal.returns-clause-ends
returns-clause-ends g c told =
    let a = g.B.Bench.disk c.args.bench.now in
    subst (λ (v : Copying). KeepEnds v.job v.progress a c.keep_next.result) c.self.view_is (c.keep_next.ensures.ends told)

pub returns-clause-window : goal.returns-clause-window
returns-clause-window g c told =
    let a = g.B.Bench.disk c.args.bench.now in
    let b = g.B.Bench.disk c.keep_next.new.bench in
    subst (λ (v : Copying). OnOk c.keep_next.result (KeepsWindow v.job v.progress c.keep_next.new.progress a b)) c.self.view_is (c.keep_next.ensures.window told)

pub returns-clause-narrow : goal.returns-clause-narrow
returns-clause-narrow g c told =
    let a = g.B.Bench.disk c.args.bench.now in
    let b = g.B.Bench.disk c.keep_next.new.bench in
    subst (λ (v : Copying). StaysNear v.job v.progress a b) c.self.view_is (c.keep_next.ensures.narrow told)

pub returns-clause-done : goal.returns-clause-done
returns-clause-done g c told =
    let b = g.B.Bench.disk c.keep_next.new.bench in
    subst (λ (v : Copying). ShowsDone v.job b c.keep_next.result) c.self.view_is (c.keep_next.ensures.done told)

pub returns-clause-cleared : goal.returns-clause-cleared
returns-clause-cleared g c told =
    let b = g.B.Bench.disk c.keep_next.new.bench in
    subst (λ (v : Copying). ClearsTheRange v.job v.progress b c.keep_next.result) c.self.view_is (c.keep_next.ensures.cleared told)

pub returns-clause-cause : goal.returns-clause-cause
returns-clause-cause g c =
    let a = g.B.Bench.disk c.args.bench.now in
    let old = g.B.Bench.meter c.args.bench.now in
    let new = g.B.Bench.meter c.keep_next.new.bench in
    subst (λ (v : Copying). HasKeepCause g.B.Bench.told v.job v.progress a old new c.keep_next.result) c.self.view_is c.keep_next.ensures.cause
