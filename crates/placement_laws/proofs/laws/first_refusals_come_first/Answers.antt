use Rattle.placement_laws.proofs.Firsts.{firsts_exactly}
use Rattle.placement_laws.proofs.laws.first_refusals_come_first.Goals as goal

pub returns : goal.returns
returns c = firsts_exactly
