use Rattle.placement_claims.proofs.OffsetSets.{AddedBy}
use Rattle.placement_claims.proofs.pieces.add_all.Given as goal

abbrev pub invariant-loop-span : goal.invariant-loop-span
invariant-loop-span l = AddedBy l.fn.cover l.spans l.span-index l.cover
