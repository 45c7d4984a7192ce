use Rattle.std.proofs.Common.{[]}
use Rattle.conf_keys.proofs.Within.{sparse_within}
use Rattle.conf_keys.proofs.conf.SparseKeys.defaults.Goals as goal

pub returns-clause-within : goal.returns-clause-within
returns-clause-within c = sparse_within []
