use Rattle.copy_journal.proofs.GateLemmas.{new_opened, open_moves, shut_moves}
use Rattle.copy_journal.proofs.new_journal.start.Goals as goal

pub returns-in_err-open_gate-clause-moves : goal.returns-in_err-open_gate-clause-moves
returns-in_err-open_gate-clause-moves g c told =
    let shut = shut_moves {id = c.args.id.now} (c.close_gate.ensures.moves told) c.in_ok-close_gate.ensures.settled (c.in_ok-close_gate.ensures.shut told) (c.prepare.ensures.moves told) in
    open_moves {id = c.args.id.now} {w = c.args.window} c.requires.window shut (c.in_ok-prepare.ensures.ready told) (c.open_gate.ensures.moves told)

pub returns-clause-moves : goal.returns-clause-moves
returns-clause-moves g c told =
    let shut = shut_moves {id = c.args.id.now} (c.close_gate.ensures.moves told) c.in_ok-close_gate.ensures.settled (c.in_ok-close_gate.ensures.shut told) (c.prepare.ensures.moves told) in
    open_moves {id = c.args.id.now} {w = c.args.window} c.requires.window shut (c.in_ok-prepare.ensures.ready told) (c.open_gate.ensures.moves told)

pub returns-clause-ok : goal.returns-clause-ok
returns-clause-ok g c told =
    new_opened c.args.id.now c.args.window _ _ c.requires.window (c.in_ok-prepare.ensures.ready told) (c.in_ok-open_gate.ensures.open told)
