use Rattle.std.proofs.Common.{◌≡◌, ◌-◌, length}
use Rattle.image_order.specs.Order.{with_image}
use Rattle.image_order.specs.Path.{left, walked}
use Rattle.image_order.proofs.ordering.place.Given as goal

abbrev pub invariant-loop-visit : goal.invariant-loop-visit
invariant-loop-visit l = walked l.families (length l.families - 1) l.path.items l.order ≡ with_image l.families (length l.families) l.initial.order l.fn.image

abbrev pub decreases-loop-visit : goal.decreases-loop-visit
decreases-loop-visit l = left l.families (length l.families - 1) l.path.items
