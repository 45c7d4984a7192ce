use Rattle.gpt_table.proofs.ReadsBack.{gpt_reads_back}
use Rattle.gpt_table.proofs.laws.gpt_reads_back.Goals as goal

pub returns : goal.returns
returns c = gpt_reads_back
