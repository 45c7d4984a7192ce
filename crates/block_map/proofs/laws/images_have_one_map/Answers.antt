use Rattle.block_map.proofs.Digests.{one_map}
use Rattle.block_map.proofs.laws.images_have_one_map.Goals as goal

pub returns : goal.returns
returns c = one_map
