-- The opening of a copier, by its one call.
use Rattle.std.proofs.Common.{ℕ, List, length, sym, ap, ◌∙◌}
use Rattle.bench.specs.declared.Dev.TheVariants.{Journal}
use Rattle.copy_opening.proofs.OpeningLemmas.{looked_opens, opening_is_narrow, opening_keeps_own}
use Rattle.copier_moves.proofs.KeepLemmas.{looked_none}
use Rattle.copier_moves.specs.Fitting.{KeepsMarks}
use Rattle.copier.proofs.OpenLemmas.{keeps_marks, opened_along, opened_fits}
use Rattle.copier.proofs.opening.open_course.Goals as goal

pub returns-in_err-units-clause-own : goal.returns-in_err-units-clause-own
returns-in_err-units-clause-own g c told =
    opening_keeps_own c.args.job.now.id (looked_opens c.args.job.now.id (looked_none (g.B.Bench.disk c.args.bench.now)))

pub returns-in_err-units-clause-narrow : goal.returns-in_err-units-clause-narrow
returns-in_err-units-clause-narrow g c told =
    opening_is_narrow c.args.job.now.id (looked_opens c.args.job.now.id (looked_none (g.B.Bench.disk c.args.bench.now)))

pub returns-in_err-ranges-clause-own : goal.returns-in_err-ranges-clause-own
returns-in_err-ranges-clause-own g c told =
    opening_keeps_own c.args.job.now.id (looked_opens c.args.job.now.id (looked_none (g.B.Bench.disk c.args.bench.now)))

pub returns-in_err-ranges-clause-narrow : goal.returns-in_err-ranges-clause-narrow
returns-in_err-ranges-clause-narrow g c told =
    opening_is_narrow c.args.job.now.id (looked_opens c.args.job.now.id (looked_none (g.B.Bench.disk c.args.bench.now)))

pub returns-clause-fits : goal.returns-clause-fits
returns-clause-fits g c told =
    let job = c.args.job.now in
    let a = g.B.Bench.disk c.args.bench.now in
    let b = g.B.Bench.disk c.open_copy.new.bench in
    let opened = c.in_ok-marks.ensures.opened told in
    let keeps : KeepsMarks job.id (b.reads Journal) c.begin.result =
    keeps_marks job (b.reads Journal) c.filled-units.result c.filled-ranges.result c.within_limits-window.result c.in_ok-marks.marks c.begin.result
    opened (c.in_ok-marks.ensures.marked told) c.begin.ensures.marks
    (λ long. c.filled-units.ensures.same (ap (λ (l : List ℕ). length l) c.bytes.ensures ∙ long ∙ sym c.in_ok-units.ensures) ∙ c.bytes.ensures)
    (λ long. c.filled-ranges.ensures.same (ap (λ (l : List ℕ). length l) c.bytes-2.ensures ∙ long ∙ sym c.in_ok-ranges.ensures) ∙ c.bytes-2.ensures)
    c.within_limits-window.ensures.same in
    opened_fits job c.begin.result a b c.begin.ensures.first (c.open_copy.ensures.opens told) (c.in_ok-marks.ensures.fits told)
    (c.in_ok-marks.ensures.settled_target told) c.in_ok-marks.ensures.settled opened keeps

pub returns-clause-along : goal.returns-clause-along
returns-clause-along g c told =
    let job = c.args.job.now in
    let a = g.B.Bench.disk c.args.bench.now in
    let b = g.B.Bench.disk c.open_copy.new.bench in
    let opened = c.in_ok-marks.ensures.opened told in
    let keeps : KeepsMarks job.id (b.reads Journal) c.begin.result =
    keeps_marks job (b.reads Journal) c.filled-units.result c.filled-ranges.result c.within_limits-window.result c.in_ok-marks.marks c.begin.result
    opened (c.in_ok-marks.ensures.marked told) c.begin.ensures.marks
    (λ long. c.filled-units.ensures.same (ap (λ (l : List ℕ). length l) c.bytes.ensures ∙ long ∙ sym c.in_ok-units.ensures) ∙ c.bytes.ensures)
    (λ long. c.filled-ranges.ensures.same (ap (λ (l : List ℕ). length l) c.bytes-2.ensures ∙ long ∙ sym c.in_ok-ranges.ensures) ∙ c.bytes-2.ensures)
    c.within_limits-window.ensures.same in
    opened_along job c.begin.result a b c.requires.job c.begin.ensures.course c.begin.ensures.first (c.open_copy.ensures.opens told)
    (c.in_ok-marks.ensures.same_marks told) opened keeps
