use Rattle.copy_narrow.proofs.NearLemmas.{end_gives_mixed}
use Rattle.copy_narrow.proofs.laws.ends_give_mixed.Goals as goal

pub returns : goal.returns
returns c = end_gives_mixed
