-- What is next is a unit that is copied, or nothing is read.
use Rattle.std.proofs.Common.{◌∙◌, subst, sym}
use Rattle.std.proofs.lemmas.Result.{on_ok_weaker}
use Rattle.copier_course.specs.declared.jobs.Need.{Need}
use Rattle.copier.proofs.CopyLemmas.{kept_cause, no_unit}
use Rattle.copier.specs.Steps.{IsIdleNeed, IsUnitNeed}
use Rattle.copier.proofs.stepping.step_next.Goals as goal

pub returns-in-Unit-clause-idle : goal.returns-in-Unit-clause-idle
returns-in-Unit-clause-idle g c idle = absurd (subst (λ (n : Need). IsIdleNeed n) (sym c.next_in.ensures ∙ c.in-Unit.is) idle)

pub returns-in-Unit-clause-unasked : goal.returns-in-Unit-clause-unasked
returns-in-Unit-clause-unasked g c none = absurd (none (subst (λ (n : Need). IsUnitNeed n) (sym c.in-Unit.is ∙ c.next_in.ensures) tt))

pub keep_next-requires-clause-next : goal.keep_next-requires-clause-next
keep_next-requires-clause-next g c unit = no_unit c.next_in.result c.in_default.not-Unit (subst (λ (n : Need). IsUnitNeed n) (sym c.next_in.ensures) unit)

pub returns-in_default-clause-since : goal.returns-in_default-clause-since
returns-in_default-clause-since g c told source before is reads = c.keep_next.ensures.since told source before

pub returns-in_default-clause-window : goal.returns-in_default-clause-window
returns-in_default-clause-window g c told = on_ok_weaker c.keep_next.result (λ keeps source is reads. keeps source reads) (c.keep_next.ensures.window told)

pub returns-in_default-clause-along : goal.returns-in_default-clause-along
returns-in_default-clause-along g c told = on_ok_weaker c.keep_next.result (λ goes source start is along. goes source start along) (c.keep_next.ensures.along told)

pub returns-in_default-clause-cause : goal.returns-in_default-clause-cause
returns-in_default-clause-cause g c =
    kept_cause g.B.Bench.told c.args.job.now c.args.progress.now (g.B.Bench.disk c.args.bench.now) (g.F.Files.counts c.args.files.now) (g.F.Files.counts c.args.files.now)
    (g.B.Bench.meter c.args.bench.now) (g.B.Bench.meter c.keep_next.new.bench) c.keep_next.result c.keep_next.ensures.cause

pub returns-in_default-clause-source : goal.returns-in_default-clause-source
returns-in_default-clause-source g c told k u next at = absurd (c.in_default.not-Unit k (c.next_in.ensures ∙ next))

pub returns-in_default-clause-ends : goal.returns-in_default-clause-ends
returns-in_default-clause-ends g c told s start is along right = c.keep_next.ensures.ends told s start along right

pub returns-in-Unit-clause-same_target : goal.returns-in-Unit-clause-same_target
returns-in-Unit-clause-same_target g c told none = absurd (none (subst (λ (n : Need). IsUnitNeed n) (sym c.in-Unit.is ∙ c.next_in.ensures) tt))

pub returns-in_default-clause-same_target : goal.returns-in_default-clause-same_target
returns-in_default-clause-same_target g c told none = c.keep_next.ensures.same_target told
