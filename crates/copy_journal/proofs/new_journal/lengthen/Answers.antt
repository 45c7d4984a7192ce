use Rattle.copy_journal.proofs.GateLemmas.{looked_grows}
use Rattle.copy_journal.proofs.new_journal.lengthen.Goals as goal

pub returns-in_err-grow-clause-grows : goal.returns-in_err-grow-clause-grows
returns-in_err-grow-clause-grows g c told = looked_grows c.length.ensures.looked (c.length.ensures.stays _) c.grow.ensures.grows
