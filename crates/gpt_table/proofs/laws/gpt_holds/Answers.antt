use Rattle.gpt_table.proofs.Parts.{gpt_holds}
use Rattle.gpt_table.proofs.laws.gpt_holds.Goals as goal

pub returns : goal.returns
returns c = gpt_holds
