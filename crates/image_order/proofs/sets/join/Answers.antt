use Rattle.std.proofs.Common.{◌≡◌, ◌<◌, ◌∙◌, ap, arith, get_or, length, rules}
use Rattle.std.specs.List.{slice_set}
use Rattle.std.proofs.lemmas.Grind.{common_steps}
use Rattle.std.proofs.lemmas.List.Edits.{map_over_more}
use Rattle.image_order.specs.Sets.{joined}
use Rattle.image_order.proofs.sets.join.Goals as goal

pub loop-image-preserved : goal.loop-image-preserved
loop-image-preserved c =
    let below : c.loop-image.image < length c.args.sets.now.items = grind (arith, common_steps) in
    let is : c.index.result.now ≡ get_or c.loop-image.sets.items c.loop-image.image c.index.result.now = search rules in
    ap (λ n. slice_set c.loop-image.sets.items c.loop-image.image n) c.joined.ensures
    ∙ map_over_more (joined c.index-through.result.now c.args.middle) c.args.sets.now.items c.loop-image.sets.items c.loop-image.image c.index.result.now below c.loop-image.invariant is
