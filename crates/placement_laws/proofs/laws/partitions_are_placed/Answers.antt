use Rattle.placement_laws.proofs.Exactly.{placed_exactly}
use Rattle.placement_laws.proofs.laws.partitions_are_placed.Goals as goal

pub returns : goal.returns
returns c = placed_exactly
