use Rattle.copy_narrow.proofs.NearLemmas.{closing_is_near, looking_is_near}
use Rattle.copy_narrow.proofs.laws.windows_are_near.Goals as goal

pub returns-clause-look : goal.returns-clause-look
returns-clause-look g c looked = looking_is_near looked

pub returns-clause-closing : goal.returns-clause-closing
returns-clause-closing g c id ks closes = closing_is_near closes
