-- What a step does, by the fields that contracts see.
use Rattle.std.proofs.Common.{subst}
use Rattle.std.specs.Prelude.{OnOk}
use Rattle.copy_stages.specs.Stages.{KeepsOwn}
use Rattle.copier.specs.Copiers.{Copying, next_of}
use Rattle.copier.specs.Ends.{StepEnds}
use Rattle.copier.specs.Runs.{ClearsTheRange, HasStepCause, SameTarget, ShowsDone, StaysNear, StepGoesAlong, StepKeepsSince, StepKeepsWindow}
use Rattle.copier.specs.Steps.{IsUnitNeed, ReadsSource}
use Rattle.copier.proofs.copiers.Copier.step.Goals as goal

pub returns-clause-since : goal.returns-clause-since
returns-clause-since g c told =
    let a = g.B.Bench.disk c.args.bench.now in
    let b = g.B.Bench.disk c.step_next.new.bench in
    subst (λ (v : Copying). StepKeepsSince g.F.Files.told (g.F.Files.file c.args.files.now v.job.source) v.job v.progress a b) c.self.view_is (c.step_next.ensures.since told)

pub returns-clause-own : goal.returns-clause-own
returns-clause-own g c told =
    let a = g.B.Bench.disk c.args.bench.now in
    let b = g.B.Bench.disk c.step_next.new.bench in
    subst (λ (v : Copying). KeepsOwn v.job.id a b) c.self.view_is (c.step_next.ensures.own told)

pub returns-clause-window : goal.returns-clause-window
returns-clause-window g c told =
    let a = g.B.Bench.disk c.args.bench.now in
    let b = g.B.Bench.disk c.step_next.new.bench in
    subst (λ (v : Copying). OnOk c.step_next.result (StepKeepsWindow g.F.Files.told (g.F.Files.file c.args.files.now v.job.source) v.job v.progress c.step_next.new.progress a b)) c.self.view_is (c.step_next.ensures.window told)

pub returns-clause-along : goal.returns-clause-along
returns-clause-along g c told =
    let a = g.B.Bench.disk c.args.bench.now in
    let b = g.B.Bench.disk c.step_next.new.bench in
    subst (λ (v : Copying). OnOk c.step_next.result (StepGoesAlong g.F.Files.told (g.F.Files.file c.args.files.now v.job.source) v.job v.progress c.step_next.new.progress a b)) c.self.view_is (c.step_next.ensures.along told)

pub returns-clause-ends : goal.returns-clause-ends
returns-clause-ends g c told =
    let a = g.B.Bench.disk c.args.bench.now in
    subst (λ (v : Copying). StepEnds g.F.Files.told (g.F.Files.file c.args.files.now v.job.source) v.job v.progress a c.step_next.result) c.self.view_is (c.step_next.ensures.ends told)

pub returns-clause-narrow : goal.returns-clause-narrow
returns-clause-narrow g c told =
    let a = g.B.Bench.disk c.args.bench.now in
    let b = g.B.Bench.disk c.step_next.new.bench in
    subst (λ (v : Copying). StaysNear v.job v.progress a b) c.self.view_is (c.step_next.ensures.narrow told)

pub returns-clause-done : goal.returns-clause-done
returns-clause-done g c told =
    let b = g.B.Bench.disk c.step_next.new.bench in
    subst (λ (v : Copying). ShowsDone v.job b c.step_next.result) c.self.view_is (c.step_next.ensures.done told)

pub returns-clause-cleared : goal.returns-clause-cleared
returns-clause-cleared g c told =
    let b = g.B.Bench.disk c.step_next.new.bench in
    subst (λ (v : Copying). ClearsTheRange v.job v.progress b c.step_next.result) c.self.view_is (c.step_next.ensures.cleared told)

pub returns-clause-same_target : goal.returns-clause-same_target
returns-clause-same_target g c told =
    let a = g.B.Bench.disk c.args.bench.now in
    let b = g.B.Bench.disk c.step_next.new.bench in
    subst (λ (v : Copying). (¬ IsUnitNeed (next_of v.job v.progress)) → SameTarget a b) c.self.view_is (c.step_next.ensures.same_target told)

pub returns-clause-source : goal.returns-clause-source
returns-clause-source g c told =
    subst (λ (v : Copying). ReadsSource (g.F.Files.file c.args.files.now) v.job v.progress c.step_next.result) c.self.view_is (c.step_next.ensures.source told)

pub returns-clause-cause : goal.returns-clause-cause
returns-clause-cause g c =
    let a = g.B.Bench.disk c.args.bench.now in
    let old = g.B.Bench.meter c.args.bench.now in
    let new = g.B.Bench.meter c.step_next.new.bench in
    subst (λ (v : Copying). HasStepCause g.B.Bench.told v.job v.progress a (g.F.Files.counts c.args.files.now) (g.F.Files.counts c.step_next.new.files) old new c.step_next.result) c.self.view_is c.step_next.ensures.cause
