use Rattle.copy_laws.proofs.Steps.{kept_is_along, taken_is_along, closed_is_along}
use Rattle.copy_laws.proofs.laws.steps_go_along.Goals as goal

pub returns-clause-kept : goal.returns-clause-kept
returns-clause-kept c = kept_is_along

pub returns-clause-taken : goal.returns-clause-taken
returns-clause-taken c = taken_is_along

pub returns-clause-closed : goal.returns-clause-closed
returns-clause-closed c = closed_is_along
