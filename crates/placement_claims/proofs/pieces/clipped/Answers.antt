use Rattle.placement_claims.proofs.OffsetSets.{clipped_exact}
use Rattle.placement_claims.proofs.pieces.clipped.Goals as goal

pub returns-clause-exact : goal.returns-clause-exact
returns-clause-exact c o = rw (c.saturating_sub.ensures, c.min-from.ensures, c.min-to.ensures) (clipped_exact c.args.place.now c.args.hole o)
