use Rattle.chain_laws.proofs.ChainLemmas.{first_starts}
use Rattle.chain_laws.proofs.laws.first_starts_have_since.Goals as goal

pub returns : goal.returns
returns g c = first_starts g.B.Bench.disk
