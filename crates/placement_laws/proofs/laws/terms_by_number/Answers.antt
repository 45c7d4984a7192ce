use Rattle.placement_laws.proofs.Numbers.{terms_exactly}
use Rattle.placement_laws.proofs.laws.terms_by_number.Goals as goal

pub returns : goal.returns
returns c = terms_exactly
