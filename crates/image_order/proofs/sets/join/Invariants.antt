use Rattle.std.proofs.Common.{◌≡◌, ◌++◌, drop, map, take}
use Rattle.image_order.specs.Sets.{joined}
use Rattle.image_order.proofs.sets.join.Given as goal

abbrev pub invariant-loop-image : goal.invariant-loop-image
invariant-loop-image l = l.sets.items ≡ map (joined l.through l.middle) (take l.image l.initial.sets.items) ++ drop l.image l.initial.sets.items
