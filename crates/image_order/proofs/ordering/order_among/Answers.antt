use Rattle.std.proofs.Common.{◌≡◌, ◌∙◌, ◌+◌, ◌-◌, suc, sym, ap, length, arith}
use Rattle.std.specs.Prelude.{fold}
use Rattle.std.specs.List.{range_with_len}
use Rattle.image_order.specs.Order.{with_image}
use Rattle.image_order.proofs.ordering.order_among.Goals as goal

pub loop-image-preserved : goal.loop-image-preserved
loop-image-preserved c =
    let families = c.args.families.now in
    let place = with_image families (length families) in
    let left : length families - c.loop-image.image ≡ suc (length families - (c.loop-image.image + 1)) = omega arith in
    ap (λ order. fold place order (range_with_len (c.loop-image.image + 1) (length families - (c.loop-image.image + 1)))) c.in_ok-place.ensures
    ∙ ap (λ n. fold place c.loop-image.order (range_with_len c.loop-image.image n)) (sym left)
    ∙ c.loop-image.invariant
