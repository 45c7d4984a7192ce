use Rattle.std.proofs.Common.{◌≡◌, drop}
use Rattle.placement_claims.proofs.claim.has_logical.Given as goal
use Rattle.placement_rules.specs.Faults.{has_logical}

abbrev pub invariant-loop-claim : goal.invariant-loop-claim
invariant-loop-claim l = has_logical l.claims ≡ has_logical (drop l.claim-index l.claims)
