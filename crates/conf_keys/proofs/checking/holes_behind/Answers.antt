use Rattle.std.proofs.Common.{[], arith}
use Rattle.conf_keys.proofs.Failing.{words_length}
use Rattle.conf_keys.proofs.checking.holes_behind.Goals as goal

pub returns-in-Set-Many : goal.returns-in-Set-Many
returns-in-Set-Many c holes h = grind (arith, words_length c.in-Set-Many.words [])

pub returns-in-Added-Many : goal.returns-in-Added-Many
returns-in-Added-Many c holes h = grind (arith, words_length c.in-Added-Many.words holes, h)
