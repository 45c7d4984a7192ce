use Rattle.copy_laws.proofs.Nearness.{units_are_near, check_is_near, clear_is_near}
use Rattle.copy_laws.proofs.laws.steps_are_narrow.Goals as goal

pub returns-clause-units : goal.returns-clause-units
returns-clause-units c = units_are_near

pub returns-clause-check : goal.returns-clause-check
returns-clause-check c = check_is_near

pub returns-clause-clear : goal.returns-clause-clear
returns-clause-clear c = clear_is_near
