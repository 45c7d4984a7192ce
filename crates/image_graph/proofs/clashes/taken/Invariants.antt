use Rattle.std.proofs.Common.{take}
use Rattle.image_graph.specs.Clashes.{taken}
use Rattle.image_names.specs.Names.{HoldSame}
use Rattle.image_graph.proofs.clashes.taken.Given as goal

abbrev pub invariant-loop-spec : goal.invariant-loop-spec
invariant-loop-spec l = HoldSame l.names (taken (take l.spec-index l.specs))
