use Rattle.std.proofs.Common.{◌≡◌, drop}
use Rattle.placement_claims.proofs.Clashes.{found_from}
use Rattle.placement_claims.proofs.earlier.first_of.Given as goal
use Rattle.placement_rules.specs.Faults.{first_clash}

abbrev pub invariant-loop-k : goal.invariant-loop-k
invariant-loop-k l = first_clash l.claim l.earlier ≡ found_from l.k (first_clash l.claim (drop l.k l.earlier))
