use Rattle.conf_grammar.proofs.KindsStand.{allowed_stands}
use Rattle.conf_grammar.proofs.laws.kinds_that_stand.Goals as goal

pub returns-clause-allowed : goal.returns-clause-allowed
returns-clause-allowed c = allowed_stands
