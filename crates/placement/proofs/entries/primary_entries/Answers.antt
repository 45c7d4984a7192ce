use Rattle.std.proofs.Common.{ap, sym, ◌∙◌}
use Rattle.placement.proofs.Listing.{entries_skip}
use Rattle.placement.proofs.entries.primary_entries.Goals as goal
use Rattle.placement.specs.Layouts.{is_primary}

pub loop-k-preserved-then-not-is_primary : goal.loop-k-preserved-then-not-is_primary
loop-k-preserved-then-not-is_primary c =
    entries_skip _ _ c.args.parts.now c.args.claims.now c.loop-k.k c.index-claims-k.result c.loop-k.entries c.loop-k-test.true c.loop-k.invariant
    (ap is_primary (sym c.index-claims-k.is) ∙ sym c.is_primary.ensures ∙ c.if-not-is_primary.true)
