use Rattle.copy_tally.proofs.Steps.{done_have_all, opened_have_none, steps_add_up}
use Rattle.copy_tally.proofs.laws.runs_are_tallied.Goals as goal

pub returns-clause-opened : goal.returns-clause-opened
returns-clause-opened c = opened_have_none

pub returns-clause-steps : goal.returns-clause-steps
returns-clause-steps c = steps_add_up

pub returns-clause-done : goal.returns-clause-done
returns-clause-done c = done_have_all
