use Rattle.copy_laws.proofs.Ranges.{end_has_mixed, checked_is_along}
use Rattle.copy_laws.proofs.laws.ranges_end_along.Goals as goal

pub returns-clause-mixed : goal.returns-clause-mixed
returns-clause-mixed c = end_has_mixed

pub returns-clause-checked : goal.returns-clause-checked
returns-clause-checked c = checked_is_along
