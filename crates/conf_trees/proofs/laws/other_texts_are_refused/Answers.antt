use Rattle.conf_trees.proofs.Meeting.{meets_one}
use Rattle.conf_trees.proofs.Refusing.{refuses_token, refuses_unset}
use Rattle.conf_trees.proofs.laws.other_texts_are_refused.Goals as goal

pub returns-clause-meets : goal.returns-clause-meets
returns-clause-meets c = meets_one

pub returns-clause-token : goal.returns-clause-token
returns-clause-token c = refuses_token

pub returns-clause-unset : goal.returns-clause-unset
returns-clause-unset c = refuses_unset
