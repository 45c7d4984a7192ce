use Rattle.std.proofs.Common.{arith}
use Rattle.image_layout.specs.Covering.{is_shown}
use Rattle.image_layout.proofs.Gaining.{gains_all, gains_more}
use Rattle.image_layout.proofs.covering.add_parts.Goals as goal

pub loop-part-preserved : goal.loop-part-preserved
loop-part-preserved c = record {
  gained = gains_more is_shown c.args.parts.now c.loop-part.part-index _ c.args.cover.now c.loop-part.cover c.add_part.new.cover
      c.loop-part-test.true c.loop-part.invariant.gained (rw c.part-item.is at c.in_ok-add_part.ensures.ok);
  few = omega (arith, c.in_ok-add_part.ensures.few, c.loop-part.invariant.few);
}

pub returns-clause-ok : goal.returns-clause-ok
returns-clause-ok c = gains_all is_shown c.args.parts.now c.loop-part.part-index c.args.cover.now c.loop-part.cover c.loop-part-test.false c.loop-part.invariant.gained
