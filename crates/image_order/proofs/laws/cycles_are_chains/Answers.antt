use Rattle.image_order.proofs.ChainLemmas.{returns_exactly}
use Rattle.image_order.proofs.CycleLemmas.{cycles_exactly}
use Rattle.image_order.proofs.laws.cycles_are_chains.Goals as goal

pub returns-clause-returns : goal.returns-clause-returns
returns-clause-returns c = returns_exactly

pub returns-clause-first : goal.returns-clause-first
returns-clause-first c = cycles_exactly
