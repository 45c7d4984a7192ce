-- A range is ended, by its move.
use Rattle.std.proofs.Common.{◌∙◌}
use Rattle.copier.proofs.EndingLemmas.{ended_ends}
use Rattle.copier.proofs.StepLemmas.{ended_cleared, ended_fewer, first_keeps_window, near_of}
use Rattle.copier.proofs.keeping.end_next.Goals as goal

pub returns-in-Ok-end_range-clause-window : goal.returns-in-Ok-end_range-clause-window
returns-in-Ok-end_range-clause-window g c told =
    first_keeps_window c.args.job.now c.args.progress.now c.end_range.new.course (g.B.Bench.disk c.args.bench.now) (g.B.Bench.disk c.end_range.new.bench) c.in-Ok-end_range.ensures.first

pub returns-in-Ok-end_range-clause-fewer : goal.returns-in-Ok-end_range-clause-fewer
returns-in-Ok-end_range-clause-fewer g c =
    ended_fewer c.args.job.now c.args.progress.now c.in-Ok.course c.end_range.new.course c.args.r c.in-Ok.is c.requires.sound c.requires.next
    c.in-Ok-end_range.ensures.course c.in-Ok-end_range.ensures.checked c.in-Ok-end_range.ensures.first

pub returns-in-Ok-end_range-clause-narrow : goal.returns-in-Ok-end_range-clause-narrow
returns-in-Ok-end_range-clause-narrow g c told = near_of c.args.job.now c.args.progress.now c.in-Ok.course c.in-Ok.is (c.end_range.ensures.narrow told)

pub returns-in-Err-clause-narrow : goal.returns-in-Err-clause-narrow
returns-in-Err-clause-narrow g c told = near_of c.args.job.now c.args.progress.now c.in-Ok.course c.in-Ok.is (c.end_range.ensures.narrow told)

pub returns-in-Err-clause-cleared : goal.returns-in-Err-clause-cleared
returns-in-Err-clause-cleared g c told =
    ended_cleared c.args.job.now c.args.progress.now c.in-Ok.course (g.B.Bench.disk c.end_range.new.bench) c.in-Err.fault c.refuse.result c.in-Ok.is
    (c.refuse.ensures.given ∙ c.from.ensures) (c.in-Err.ensures.none_left told)

pub returns-in-Ok-end_range-clause-ends : goal.returns-in-Ok-end_range-clause-ends
returns-in-Ok-end_range-clause-ends g c told s start along right = tt

pub returns-in-Err-clause-ends : goal.returns-in-Err-clause-ends
returns-in-Err-clause-ends g c told =
    ended_ends g.B.Bench.told c.args.job.now c.args.progress.now c.in-Ok.course c.args.r (g.B.Bench.disk c.args.bench.now) (g.B.Bench.meter c.args.bench.now) (g.B.Bench.meter c.end_range.new.bench)
    c.in-Err.fault c.refuse.result c.in-Ok.is c.requires.sound c.requires.next (c.requires.fits told) told (c.refuse.ensures.given ∙ c.from.ensures) c.in-Err.ensures.cause
