use Rattle.chain_laws.proofs.ChainLemmas.{done_chains, uninterrupted}
use Rattle.chain_laws.proofs.laws.done_chains_are_copied.Goals as goal

pub returns-clause-chain : goal.returns-clause-chain
returns-clause-chain g c told = done_chains g.B.Bench.disk g.met.B.Bench.only_now (g.met.B.Bench.reads_leave told)

pub returns-clause-alone : goal.returns-clause-alone
returns-clause-alone g c told = uninterrupted g.B.Bench.disk g.met.B.Bench.only_now (g.met.B.Bench.reads_leave told)
