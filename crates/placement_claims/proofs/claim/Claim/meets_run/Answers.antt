use Rattle.placement_claims.proofs.Meeting.{meets_run}
use Rattle.placement_claims.proofs.claim.Claim.meets_run.Goals as goal

pub returns : goal.returns
returns c = rw (← c.self.view_is) (meets_run _ c.self.inside.cover (record { at = c.args.at; len = c.args.len }) _ c.self.invariant c.meets.ensures)
