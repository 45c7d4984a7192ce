use Rattle.std.proofs.Common.{ap, ◌∙◌}
use Rattle.placement_claims.specs.Held.{in_place}
use Rattle.placement_rules.specs.Places.{stood_at}
use Rattle.placement_walk.proofs.Steps.{held_at, unless_err}
use Rattle.placement_walk.proofs.holding.hold.Goals as goal

pub returns-in_ok-claim-in-Ok-clause-ok : goal.returns-in_ok-claim-in-Ok-clause-ok
returns-in_ok-claim-in-Ok-clause-ok c =
    held_at c.args.frame.now (stood_at c.args.frame.now c.args.highest c.args.terms.now c.args.holes.now) c.in_ok-claim-in-Ok.claim c.in-Ok.place
    c.in-Ok.ensures.said
    (c.in_ok-claim-in-Ok.ensures ∙ ap (λ holes. in_place c.args.terms.now holes c.in-Ok.place) c.in_ok-copy_holes-in-Ok.ensures)
    c.in-Ok.ensures.ends

pub returns-in-Err-clause-err : goal.returns-in-Err-clause-err
returns-in-Err-clause-err c = unless_err _ _ c.in-Err.fault c.in-Err.ensures.said
