use Rattle.std.proofs.Common.{◌≡◌, ◌+◌, ◌-◌, ◌<◌, ◌≤◌, take, get_or, None, ap, arith}
use Rattle.std.proofs.lemmas.List.{get_or_default}
use Rattle.std.proofs.lemmas.List.Sums.{sum_by_more}
use Rattle.block_map.specs.declared.maps.Range.{Range}
use Rattle.block_map.specs.Maps.{blocks_in}
use Rattle.block_map.proofs.maps.blocks_in.Goals as goal

pub loop-range-preserved : goal.loop-range-preserved
loop-range-preserved c =
    let e : Range = record { first = 0; last = 0; digest = None } in
    let r : Range = get_or c.args.ranges.now c.loop-range.range-index e in
    let order : r.first ≤ r.last = c.requires.ranges.filled c.loop-range.range-index e c.loop-range-test.true in
    let before : c.loop-range.count ≤ r.first = c.loop-range.invariant.before c.loop-range.range-index e (omega arith) c.loop-range-test.true in
    let more : blocks_in (take (c.loop-range.range-index + 1) c.args.ranges.now) ≡ blocks_in (take c.loop-range.range-index c.args.ranges.now) + (r.last + 1 - r.first) =
    sum_by_more (λ (x : Range). x.last + 1 - x.first) c.args.ranges.now c.loop-range.range-index e c.loop-range-test.true in
    record {
      sum = omega (arith, c.loop-range.invariant.sum);
      before = λ j d from below.
          let gap : r.last < (get_or c.args.ranges.now j e).first = c.requires.ranges.ascend c.loop-range.range-index j e (omega arith) below in
          let same : (get_or c.args.ranges.now j e).first ≡ (get_or c.args.ranges.now j d).first = ap (λ (x : Range). x.first) (get_or_default c.args.ranges.now j e d below) in
          omega arith;
    }
