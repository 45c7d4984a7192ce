use Rattle.std.proofs.Common.{◌+◌, ◌≤◌, length}
use Rattle.placement_claims.proofs.OffsetSets.{LeftBy}
use Rattle.placement_claims.proofs.pieces.left.Given as goal

abbrev pub invariant-loop-hole : goal.invariant-loop-hole
invariant-loop-hole l = record {
  exact : LeftBy l.place l.holes l.hole-index l.cover;
  few : length l.cover ≤ l.hole-index + 1;
}
