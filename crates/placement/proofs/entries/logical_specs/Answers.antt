use Rattle.std.proofs.Common.{ap, sym, ◌∙◌}
use Rattle.placement.proofs.Listing.{entries_skip}
use Rattle.placement.proofs.entries.logical_specs.Goals as goal
use Rattle.placement_rules.specs.Places.{Stood}

pub loop-k-preserved-then-not-is_logical : goal.loop-k-preserved-then-not-is_logical
loop-k-preserved-then-not-is_logical c =
    entries_skip _ _ c.args.parts.now c.args.claims.now c.loop-k.k c.index-claims-k.result c.loop-k.specs c.loop-k-test.true c.loop-k.invariant
    (ap (λ (s : Stood). s.terms.logical) (sym c.index-claims-k.is) ∙ sym c.is_logical.ensures ∙ c.if-not-is_logical.true)
