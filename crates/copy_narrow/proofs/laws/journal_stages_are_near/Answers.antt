use Rattle.copy_narrow.proofs.NearLemmas.{checking_is_near, clearing_is_near}
use Rattle.copy_narrow.proofs.laws.journal_stages_are_near.Goals as goal

pub returns-clause-check : goal.returns-clause-check
returns-clause-check g c id r touches = checking_is_near touches

pub returns-clause-clear : goal.returns-clause-clear
returns-clause-clear g c id first count touches = clearing_is_near touches
