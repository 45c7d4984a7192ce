use Rattle.placement_apart.proofs.Law.{placed_lies_apart}
use Rattle.placement_apart.proofs.laws.placed_lies_apart.Goals as goal

pub returns : goal.returns
returns c = placed_lies_apart
