use Rattle.copy_opening.proofs.OpeningLemmas.{new_same_marks, zeros_are_marks}
use Rattle.copy_opening.proofs.opening.open_journal.Goals as goal

pub returns-in_ok-open_new-in-Fresh-clause-marked : goal.returns-in_ok-open_new-in-Fresh-clause-marked
returns-in_ok-open_new-in-Fresh-clause-marked g c told =
    zeros_are_marks c.args.id.now c.args.window _ c.in_ok-marks-in-Fresh.marks
    (c.in_ok-open_new-in-Fresh.ensures.ok told) c.in_ok-marks-in-Fresh.ensures

pub returns-in_ok-open_new-in-Fresh-clause-same_marks : goal.returns-in_ok-open_new-in-Fresh-clause-same_marks
returns-in_ok-open_new-in-Fresh-clause-same_marks g c told =
    new_same_marks c.args.id.now c.args.window _ _ (c.in_ok-open_new-in-Fresh.ensures.held told)
    (c.in_ok-open_new-in-Fresh.ensures.ok told)
