use Rattle.copy_laws.proofs.Small.{small_is_copied, small_is_in_order}
use Rattle.copy_laws.proofs.laws.small_copies.Goals as goal

pub returns-clause-copied : goal.returns-clause-copied
returns-clause-copied c = small_is_copied

pub returns-clause-in_order : goal.returns-clause-in_order
returns-clause-in_order c = small_is_in_order
