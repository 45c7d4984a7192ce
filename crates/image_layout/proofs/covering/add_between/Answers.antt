use Rattle.std.proofs.Common.{arith}
use Rattle.image_layout.proofs.Between.{between_last, between_more}
use Rattle.image_layout.proofs.covering.add_between.Goals as goal

pub loop-hole-preserved : goal.loop-hole-preserved
loop-hole-preserved c = record {
  between = between_more c.args.cover.now c.loop-hole.cover c.add.new.self c.args.at c.args.reach c.args.holes.now c.loop-hole.hole-index c.loop-hole.from
      c.requires.holes c.loop-hole-test.true c.loop-hole.invariant.between (rw (c.saturating_sub.ensures, c.min.ensures) at c.in_ok-add.ensures.ok);
  few = omega (arith, c.in_ok-add.ensures.few, c.loop-hole.invariant.few);
}

pub returns-clause-ok : goal.returns-clause-ok
returns-clause-ok c =
    between_last c.args.cover.now c.loop-hole.cover c.add-2.new.self c.args.at c.args.reach c.args.holes.now c.loop-hole.hole-index c.loop-hole.from
    c.loop-hole-test.false c.loop-hole.invariant.between (rw c.saturating_sub-2.ensures at c.in_ok-add-2.ensures.ok)
