use Rattle.image_order.specs.Sets.{Tells}
use Rattle.image_order.proofs.sets.chained.Given as goal

abbrev pub invariant-loop-middle : goal.invariant-loop-middle
invariant-loop-middle l = Tells l.families l.middle l.sets.items
