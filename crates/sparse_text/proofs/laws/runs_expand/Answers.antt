use Rattle.sparse_text.proofs.Texts.{runs_expand}
use Rattle.sparse_text.proofs.laws.runs_expand.Goals as goal

pub returns : goal.returns
returns c = runs_expand
