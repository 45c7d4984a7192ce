use Rattle.hybrid_table.proofs.ReadsBack.{hybrid_reads_back}
use Rattle.hybrid_table.proofs.laws.hybrid_reads_back.Goals as goal

pub returns : goal.returns
returns c = hybrid_reads_back
