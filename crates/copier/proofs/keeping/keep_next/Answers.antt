-- What is next, by the function that does it.
use Rattle.std.proofs.Common.{◌∙◌, subst, sym}
use Rattle.copier_course.specs.declared.jobs.Need.{Need}
use Rattle.copier.proofs.EndingLemmas.{done_ends, kept_ends}
use Rattle.copier.proofs.StepLemmas.{rests_done, rests_near}
use Rattle.copier.specs.Steps.{IsIdleNeed, IsUnitNeed}
use Rattle.copier.proofs.keeping.keep_next.Goals as goal

pub unreachable-requires : goal.unreachable-requires
unreachable-requires g c = c.requires.next (subst (λ (n : Need). IsUnitNeed n) (sym c.in-Unit.is ∙ c.next_in.ensures) tt)

pub returns-in-Kept-clause-idle : goal.returns-in-Kept-clause-idle
returns-in-Kept-clause-idle g c idle = absurd (subst (λ (n : Need). IsIdleNeed n) (sym c.next_in.ensures ∙ c.in-Kept.is) idle)

pub returns-in-Range-clause-idle : goal.returns-in-Range-clause-idle
returns-in-Range-clause-idle g c idle = absurd (subst (λ (n : Need). IsIdleNeed n) (sym c.next_in.ensures ∙ c.in-Range.is) idle)

pub returns-in-Done-clause-narrow : goal.returns-in-Done-clause-narrow
returns-in-Done-clause-narrow g c told =
    rests_near c.args.job.now c.args.progress.now (g.B.Bench.disk c.args.bench.now) c.requires.sound (c.requires.fits told)

pub returns-in-Done-clause-done : goal.returns-in-Done-clause-done
returns-in-Done-clause-done g c told =
    rests_done c.args.job.now c.args.progress.now (g.B.Bench.disk c.args.bench.now) c.requires.sound (sym c.next_in.ensures ∙ c.in-Done.is) (c.requires.fits told)

pub returns-in-Failed-clause-narrow : goal.returns-in-Failed-clause-narrow
returns-in-Failed-clause-narrow g c told =
    rests_near c.args.job.now c.args.progress.now (g.B.Bench.disk c.args.bench.now) c.requires.sound (c.requires.fits told)

pub returns-in-Done-clause-ends : goal.returns-in-Done-clause-ends
returns-in-Done-clause-ends g c told =
    done_ends c.args.job.now c.args.progress.now (g.B.Bench.disk c.args.bench.now) c.requires.sound (sym c.next_in.ensures ∙ c.in-Done.is) (c.requires.fits told)

pub returns-in-Failed-clause-ends : goal.returns-in-Failed-clause-ends
returns-in-Failed-clause-ends g c told =
    kept_ends c.args.job.now c.args.progress.now (g.B.Bench.disk c.args.bench.now) c.kept_in.result c.kept_in.result c.kept_in.ensures
