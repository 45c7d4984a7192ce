use Rattle.placement_claims.proofs.Meeting.{meets_other}
use Rattle.placement_claims.proofs.claim.Claim.meets.Goals as goal

pub returns : goal.returns
returns c =
    rw (← c.self.view_is, ← c.other.view_is)
    (meets_other _ _ c.self.inside.cover c.other.inside.cover _ c.self.invariant c.other.invariant c.share.ensures)
