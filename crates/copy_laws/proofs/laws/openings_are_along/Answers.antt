use Rattle.copy_laws.proofs.Opening.{new_has_same_marks, opening_is_along}
use Rattle.copy_laws.proofs.laws.openings_are_along.Goals as goal

pub returns-clause-new : goal.returns-clause-new
returns-clause-new c = new_has_same_marks

pub returns-clause-along : goal.returns-clause-along
returns-clause-along c = opening_is_along
