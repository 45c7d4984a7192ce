use Rattle.bench.specs.declared.Dev.TheVariants.{Journal}
use Rattle.copy_opening.proofs.OpeningLemmas.{kept_then, looked_opens, opening_is_narrow, opening_keeps_marks, opening_keeps_own, opening_keeps_since, opens_then}
use Rattle.copy_opening.proofs.opening.open_copy.Goals as goal

pub returns-in_err-marks-clause-opens : goal.returns-in_err-marks-clause-opens
returns-in_err-marks-clause-opens g c told =
    opens_then c.args.id.now c.settle_target.ensures.looked (c.open_journal.ensures.moves told)

pub returns-clause-opens : goal.returns-clause-opens
returns-clause-opens g c told =
    opens_then c.args.id.now c.settle_target.ensures.looked (c.open_journal.ensures.moves told)

pub returns-in_err-settle_target-clause-own : goal.returns-in_err-settle_target-clause-own
returns-in_err-settle_target-clause-own g c told =
    opening_keeps_own c.args.id.now (looked_opens c.args.id.now c.settle_target.ensures.looked)

pub returns-in_err-settle_target-clause-since : goal.returns-in_err-settle_target-clause-since
returns-in_err-settle_target-clause-since g c told =
    opening_keeps_since c.args.id.now (g.met.B.Bench.reads_leave told c.args.bench.now Journal)
    (looked_opens c.args.id.now c.settle_target.ensures.looked)

pub returns-in_err-marks-clause-own : goal.returns-in_err-marks-clause-own
returns-in_err-marks-clause-own g c told =
    opening_keeps_own c.args.id.now (opens_then c.args.id.now c.settle_target.ensures.looked
    (c.open_journal.ensures.moves told))

pub returns-in_err-marks-clause-since : goal.returns-in_err-marks-clause-since
returns-in_err-marks-clause-since g c told =
    opening_keeps_since c.args.id.now (g.met.B.Bench.reads_leave told c.args.bench.now Journal)
    (opens_then c.args.id.now c.settle_target.ensures.looked (c.open_journal.ensures.moves told))

pub returns-clause-own : goal.returns-clause-own
returns-clause-own g c told =
    opening_keeps_own c.args.id.now (opens_then c.args.id.now c.settle_target.ensures.looked
    (c.open_journal.ensures.moves told))

pub returns-clause-since : goal.returns-clause-since
returns-clause-since g c told =
    opening_keeps_since c.args.id.now (g.met.B.Bench.reads_leave told c.args.bench.now Journal)
    (opens_then c.args.id.now c.settle_target.ensures.looked (c.open_journal.ensures.moves told))

pub returns-in_err-settle_target-clause-narrow : goal.returns-in_err-settle_target-clause-narrow
returns-in_err-settle_target-clause-narrow g c told =
    opening_is_narrow c.args.id.now (looked_opens c.args.id.now c.settle_target.ensures.looked)

pub returns-in_err-marks-clause-narrow : goal.returns-in_err-marks-clause-narrow
returns-in_err-marks-clause-narrow g c told =
    opening_is_narrow c.args.id.now (opens_then c.args.id.now c.settle_target.ensures.looked
    (c.open_journal.ensures.moves told))

pub returns-clause-narrow : goal.returns-clause-narrow
returns-clause-narrow g c told =
    opening_is_narrow c.args.id.now (opens_then c.args.id.now c.settle_target.ensures.looked
    (c.open_journal.ensures.moves told))

pub returns-in_err-settle_target-clause-keeps : goal.returns-in_err-settle_target-clause-keeps
returns-in_err-settle_target-clause-keeps g c told =
    opening_keeps_marks c.args.id.now (λ held. c.settle_target.ensures.looked)
    (looked_opens c.args.id.now c.settle_target.ensures.looked)

pub returns-in_err-marks-clause-keeps : goal.returns-in_err-marks-clause-keeps
returns-in_err-marks-clause-keeps g c told =
    opening_keeps_marks c.args.id.now (kept_then c.settle_target.ensures.looked (c.open_journal.ensures.kept told))
    (opens_then c.args.id.now c.settle_target.ensures.looked (c.open_journal.ensures.moves told))

pub returns-clause-keeps : goal.returns-clause-keeps
returns-clause-keeps g c told =
    opening_keeps_marks c.args.id.now (kept_then c.settle_target.ensures.looked (c.open_journal.ensures.kept told))
    (opens_then c.args.id.now c.settle_target.ensures.looked (c.open_journal.ensures.moves told))
