use Rattle.chain_laws.proofs.ChainLemmas.{chains, stands}
use Rattle.chain_laws.proofs.laws.chains_keep_since.Goals as goal

pub returns-clause-stands : goal.returns-clause-stands
returns-clause-stands g c = stands g.B.Bench.disk

pub returns-clause-since : goal.returns-clause-since
returns-clause-since g c = chains g.B.Bench.disk g.met.B.Bench.only_now
