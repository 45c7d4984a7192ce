use Rattle.extended_chain.proofs.ReadsBack.{chain_reads_back}
use Rattle.extended_chain.proofs.laws.chain_reads_back.Goals as goal

pub returns : goal.returns
returns c = chain_reads_back
