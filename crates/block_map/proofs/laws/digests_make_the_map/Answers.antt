use Rattle.block_map.proofs.Digests.{digests_end, digests_go_on}
use Rattle.block_map.proofs.laws.digests_make_the_map.Goals as goal

pub returns-clause-go_on : goal.returns-clause-go_on
returns-clause-go_on c = digests_go_on

pub returns-clause-end : goal.returns-clause-end
returns-clause-end c = digests_end
