use Rattle.copy_narrow.proofs.NearLemmas.{open_is_window, settled_is_window}
use Rattle.copy_narrow.proofs.laws.windows_go_on.Goals as goal

pub returns-clause-taken : goal.returns-clause-taken
returns-clause-taken g c = open_is_window _

pub returns-clause-settled : goal.returns-clause-settled
returns-clause-settled g c = settled_is_window _
