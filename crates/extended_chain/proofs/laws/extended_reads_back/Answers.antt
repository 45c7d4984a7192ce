use Rattle.extended_chain.proofs.ExtendedReads.{extended_reads_back}
use Rattle.extended_chain.proofs.laws.extended_reads_back.Goals as goal

pub returns : goal.returns
returns c = extended_reads_back
