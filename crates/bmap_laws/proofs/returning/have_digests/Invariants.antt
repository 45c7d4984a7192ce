use Rattle.std.proofs.Common.{take}
use Rattle.bmap_laws.specs.Digests.{AreDigests}
use Rattle.bmap_laws.proofs.returning.have_digests.Given as goal

abbrev pub invariant-loop-range : goal.invariant-loop-range
invariant-loop-range l = AreDigests (take l.range-index l.ranges)
