use Rattle.std.proofs.Common.{◌≡◌, drop, max}
use Rattle.placement.specs.Said.{logical_ends}
use Rattle.placement.proofs.extended.extended_end.Given as goal
use Rattle.placement_rules.specs.Places.{greatest}

abbrev pub invariant-loop-claim : goal.invariant-loop-claim
invariant-loop-claim l = greatest (logical_ends l.claims) ≡ max l.end (greatest (logical_ends (drop l.claim-index l.claims)))
