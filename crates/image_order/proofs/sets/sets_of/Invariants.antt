use Rattle.image_order.proofs.SetLemmas.{TellFirst}
use Rattle.image_order.proofs.sets.sets_of.Given as goal

abbrev pub invariant-loop-children : goal.invariant-loop-children
invariant-loop-children l = TellFirst l.families l.children-index l.sets.items
