use Rattle.copy_laws.proofs.Opening.{closing_keeps_standing, marks_keep_own}
use Rattle.copy_laws.proofs.laws.gates_keep_standing.Goals as goal

pub returns-clause-closing : goal.returns-clause-closing
returns-clause-closing c = closing_keeps_standing

pub returns-clause-own : goal.returns-clause-own
returns-clause-own c = marks_keep_own
