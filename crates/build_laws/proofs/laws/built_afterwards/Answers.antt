use Rattle.build_laws.proofs.Afterwards.{built_afterwards}
use Rattle.build_laws.proofs.laws.built_afterwards.Goals as goal

pub returns : goal.returns
returns c = built_afterwards
