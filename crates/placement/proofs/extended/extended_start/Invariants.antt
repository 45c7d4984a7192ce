use Rattle.std.proofs.Common.{◌≡◌, drop}
use Rattle.placement.specs.Said.{extended_start}
use Rattle.placement.proofs.extended.extended_start.Given as goal

abbrev pub invariant-loop-claim : goal.invariant-loop-claim
invariant-loop-claim l = extended_start l.claims ≡ extended_start (drop l.claim-index l.claims)
