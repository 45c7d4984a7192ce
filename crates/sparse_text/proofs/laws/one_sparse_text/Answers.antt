use Rattle.sparse_text.proofs.Texts.{one_list_of_runs, one_sparse_text}
use Rattle.sparse_text.proofs.laws.one_sparse_text.Goals as goal

pub returns-clause-runs : goal.returns-clause-runs
returns-clause-runs c = one_list_of_runs

pub returns-clause-text : goal.returns-clause-text
returns-clause-text c = one_sparse_text
