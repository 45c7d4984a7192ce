use Rattle.placement_rules.specs.Terms.{holes_of}
use Rattle.placement_walk.proofs.Steps.{up_to_more}
use Rattle.placement_walk.proofs.walking.walk.Goals as goal

pub loop-number-preserved : goal.loop-number-preserved
loop-number-preserved c =
    up_to_more c.args.frame.now c.args.terms.now (holes_of c.args.spec.now) c.loop-number.number _ _ c.loop-number.earlier c.in-Ok.earlier
    c.loop-number-test.true (rw c.requires.holes at c.loop-number-test.true) c.loop-number.invariant (rw c.holes_at.ensures at c.in-Ok.ensures.ok)
