use Rattle.copy_laws.proofs.Endings.{mixed_is_one, one_outcome}
use Rattle.copy_laws.proofs.laws.runs_end_one_way.Goals as goal

pub returns-clause-mixed : goal.returns-clause-mixed
returns-clause-mixed c = mixed_is_one

pub returns-clause-outcome : goal.returns-clause-outcome
returns-clause-outcome c = one_outcome
