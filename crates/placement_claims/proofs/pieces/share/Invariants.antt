use Rattle.placement_claims.proofs.OffsetSets.{SharesNone}
use Rattle.placement_claims.proofs.pieces.share.Given as goal

abbrev pub invariant-loop-span : goal.invariant-loop-span
invariant-loop-span l = SharesNone l.spans l.span-index l.other
