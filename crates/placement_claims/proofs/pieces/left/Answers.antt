use Rattle.std.proofs.Common.{arith, ap, length}
use Rattle.placement_claims.proofs.OffsetSets.{left_all, left_more, left_none}
use Rattle.placement_claims.proofs.pieces.left.Goals as goal

pub loop-hole-init : goal.loop-hole-init
loop-hole-init c = record {
  exact = left_none c.args.place.now c.args.holes.now c.new-cover.result c.add.new.self c.new-cover.ensures c.in_ok-add.ensures.ok;
  few = omega (arith, c.in_ok-add.ensures.few, ap length c.new-cover.ensures);
}

pub loop-hole-preserved : goal.loop-hole-preserved
loop-hole-preserved c = record {
  exact = left_more c.args.place.now c.args.holes.now c.loop-hole.hole-index _ _ c.loop-hole.cover c.take_out.new.self
      c.loop-hole-test.true c.loop-hole.invariant.exact c.in_ok-take_out.ensures.ok c.clipped.ensures.exact;
  few = omega (arith, c.in_ok-take_out.ensures.few, c.loop-hole.invariant.few);
}

pub returns-clause-exact : goal.returns-clause-exact
returns-clause-exact c =
    left_all c.args.place.now c.args.holes.now c.loop-hole.hole-index c.loop-hole.cover c.loop-hole-test.false c.loop-hole.invariant.exact
