use Rattle.std.proofs.Common.{ap, sym, ◌∙◌}
use Rattle.placement.proofs.Listing.{entries_skip}
use Rattle.placement.proofs.entries.guid_entries.Goals as goal
use Rattle.placement_rules.specs.Places.{Stood}

pub loop-k-preserved-then-not-is_tabled : goal.loop-k-preserved-then-not-is_tabled
loop-k-preserved-then-not-is_tabled c =
    entries_skip _ _ c.args.parts.now c.args.claims.now c.loop-k.k c.index-claims-k.result c.loop-k.entries c.loop-k-test.true c.loop-k.invariant
    (ap (λ (s : Stood). s.terms.tabled) (sym c.index-claims-k.is) ∙ sym c.is_tabled.ensures ∙ c.if-not-is_tabled.true)
