use Rattle.std.proofs.Common.{◌≡◌, ◌-◌, length}
use Rattle.std.specs.Prelude.{fold}
use Rattle.std.specs.List.{range_with_len}
use Rattle.image_order.specs.Order.{order_among, with_image}
use Rattle.image_order.proofs.ordering.order_among.Given as goal

abbrev pub invariant-loop-image : goal.invariant-loop-image
invariant-loop-image l = fold (with_image l.families (length l.families)) l.order (range_with_len l.image (length l.families - l.image)) ≡ order_among l.families
