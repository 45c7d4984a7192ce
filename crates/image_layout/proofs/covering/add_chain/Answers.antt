use Rattle.std.proofs.Common.{arith, false}
use Rattle.extended_chain.specs.declared.chain.LogicalSpec.{LogicalSpec}
use Rattle.span_cover.specs.Cover.{has}
use Rattle.image_layout.proofs.Gaining.{gains_all, gains_chain, gains_more, record_span}
use Rattle.image_layout.proofs.covering.add_chain.Goals as goal

pub loop-spec-preserved : goal.loop-spec-preserved
loop-spec-preserved c =
    let none : LogicalSpec = record { active = false; kind = 0; head = 0; first = 0; count = 0 } in
    record {
      gained = gains_more (λ s o. has (record_span s) o) c.args.logical.now c.loop-spec.spec-index none c.args.cover.now c.loop-spec.cover c.add.new.self
          c.loop-spec-test.true c.loop-spec.invariant.gained (rw c.from.ensures at c.in_ok-add.ensures.ok);
      few = omega (arith, c.in_ok-add.ensures.few, c.loop-spec.invariant.few);
    }

pub returns-clause-ok : goal.returns-clause-ok
returns-clause-ok c =
    gains_chain c.args.logical.now c.args.cover.now c.loop-spec.cover
    (gains_all (λ s o. has (record_span s) o) c.args.logical.now c.loop-spec.spec-index c.args.cover.now c.loop-spec.cover c.loop-spec-test.false c.loop-spec.invariant.gained)
