use Rattle.bench.specs.declared.Dev.TheVariants.{Target}
use Rattle.copy_stages.proofs.StageLemmas.{closing_keeps_opened, closing_keeps_own, closing_keeps_since, looked_closes, settled_closes, target_settled}
use Rattle.copy_stages.proofs.stages.close_window.Goals as goal

pub returns-in_err-sync-clause-closes : goal.returns-in_err-sync-clause-closes
returns-in_err-sync-clause-closes g c told = looked_closes c.args.ks.now c.sync.ensures.looked

pub returns-in_err-record_units-clause-closes : goal.returns-in_err-record_units-clause-closes
returns-in_err-record_units-clause-closes g c told =
    settled_closes c.args.ks.now c.sync.ensures.looked c.in_ok-sync.ensures.settled (c.record_units.ensures.moves told)

pub returns-clause-closes : goal.returns-clause-closes
returns-clause-closes g c told =
    settled_closes c.args.ks.now c.sync.ensures.looked c.in_ok-sync.ensures.settled (c.record_units.ensures.moves told)

pub returns-clause-settled_target : goal.returns-clause-settled_target
returns-clause-settled_target g c told = target_settled c.in_ok-sync.ensures.settled (c.record_units.ensures.moves told)

pub returns-in_err-sync-clause-since : goal.returns-in_err-sync-clause-since
returns-in_err-sync-clause-since g c told =
    closing_keeps_since c.requires.inside (g.met.B.Bench.reads_leave told c.args.bench.now Target) (looked_closes c.args.ks.now c.sync.ensures.looked)

pub returns-in_err-record_units-clause-since : goal.returns-in_err-record_units-clause-since
returns-in_err-record_units-clause-since g c told =
    closing_keeps_since c.requires.inside (g.met.B.Bench.reads_leave told c.args.bench.now Target)
    (settled_closes c.args.ks.now c.sync.ensures.looked c.in_ok-sync.ensures.settled (c.record_units.ensures.moves told))

pub returns-clause-since : goal.returns-clause-since
returns-clause-since g c told =
    closing_keeps_since c.requires.inside (g.met.B.Bench.reads_leave told c.args.bench.now Target)
    (settled_closes c.args.ks.now c.sync.ensures.looked c.in_ok-sync.ensures.settled (c.record_units.ensures.moves told))

pub returns-in_err-sync-clause-own : goal.returns-in_err-sync-clause-own
returns-in_err-sync-clause-own g c told =
    closing_keeps_own (g.met.B.Bench.reads_leave told c.args.bench.now Target) (looked_closes c.args.ks.now c.sync.ensures.looked)

pub returns-in_err-sync-clause-still : goal.returns-in_err-sync-clause-still
returns-in_err-sync-clause-still g c told =
    closing_keeps_opened (looked_closes c.args.ks.now c.sync.ensures.looked) (c.requires.opened told)

pub returns-in_err-record_units-clause-own : goal.returns-in_err-record_units-clause-own
returns-in_err-record_units-clause-own g c told =
    closing_keeps_own (g.met.B.Bench.reads_leave told c.args.bench.now Target) (settled_closes c.args.ks.now c.sync.ensures.looked c.in_ok-sync.ensures.settled (c.record_units.ensures.moves told))

pub returns-in_err-record_units-clause-still : goal.returns-in_err-record_units-clause-still
returns-in_err-record_units-clause-still g c told =
    closing_keeps_opened (settled_closes c.args.ks.now c.sync.ensures.looked c.in_ok-sync.ensures.settled (c.record_units.ensures.moves told)) (c.requires.opened told)

pub returns-clause-own : goal.returns-clause-own
returns-clause-own g c told =
    closing_keeps_own (g.met.B.Bench.reads_leave told c.args.bench.now Target) (settled_closes c.args.ks.now c.sync.ensures.looked c.in_ok-sync.ensures.settled (c.record_units.ensures.moves told))

pub returns-clause-still : goal.returns-clause-still
returns-clause-still g c told =
    closing_keeps_opened (settled_closes c.args.ks.now c.sync.ensures.looked c.in_ok-sync.ensures.settled (c.record_units.ensures.moves told)) (c.requires.opened told)
