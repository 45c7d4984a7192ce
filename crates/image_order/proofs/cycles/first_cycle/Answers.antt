use Rattle.std.proofs.Common.{◌≡◌, ◌<◌, ◌-◌, ◌+◌, ◌∙◌, ap, arith, false, get_or, length, rules, sym, true}
use Rattle.std.specs.Prelude.{find}
use Rattle.std.specs.List.{range_with_len}
use Rattle.image_order.specs.Chains.{returns}
use Rattle.image_order.proofs.CycleLemmas.{find_later, find_passes}
use Rattle.image_order.proofs.SetLemmas.{tells_cycle}
use Rattle.image_order.proofs.cycles.first_cycle.Goals as goal

pub returns-then-has : goal.returns-then-has
returns-then-has c =
    let families = c.args.families.now in
    let image = c.loop-image.image in
    let is : c.index.result.now ≡ get_or c.in_ok-sets.sets.items image c.index.result.now = search rules in
    let passes : returns families image ≡ true = tells_cycle families c.in_ok-sets.sets.items image c.index.result.now c.in_ok-sets.ensures c.requires.few c.loop-image-test.true is ∙ sym c.if-has.ensures in
    let some : 0 < length families - image = omega (arith, c.loop-image-test.true) in
    sym (c.loop-image.invariant ∙ find_passes (returns families) image (length families - image) some passes)

pub loop-image-preserved : goal.loop-image-preserved
loop-image-preserved c =
    let families = c.args.families.now in
    let image = c.loop-image.image in
    let is : c.index.result.now ≡ get_or c.in_ok-sets.sets.items image c.index.result.now = search rules in
    let fails : returns families image ≡ false = tells_cycle families c.in_ok-sets.sets.items image c.index.result.now c.in_ok-sets.ensures c.requires.few c.loop-image-test.true is ∙ sym c.if-has.ensures in
    let some : 0 < length families - image = omega (arith, c.loop-image-test.true) in
    let fewer : length families - image - 1 ≡ length families - (image + 1) = omega arith in
    c.loop-image.invariant
    ∙ find_later (returns families) image (length families - image) some fails
    ∙ ap (λ k. find (returns families) (range_with_len (image + 1) k)) fewer
