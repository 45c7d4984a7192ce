use Rattle.std.proofs.Common.{take}
use Rattle.image_order.specs.Sets.{IsSetOf}
use Rattle.image_order.proofs.sets.set_of.Given as goal

abbrev pub invariant-loop-child : goal.invariant-loop-child
invariant-loop-child l = IsSetOf (take l.child-index l.children) l.set
