use Rattle.mbr_table.proofs.ReadsBack.{mbr_reads_back}
use Rattle.mbr_table.proofs.laws.mbr_reads_back.Goals as goal

pub returns : goal.returns
returns c = mbr_reads_back
