use Rattle.gpt_table.proofs.Parts.{gpt_lies_within}
use Rattle.gpt_table.proofs.laws.gpt_lies_within.Goals as goal

pub returns : goal.returns
returns c = gpt_lies_within
