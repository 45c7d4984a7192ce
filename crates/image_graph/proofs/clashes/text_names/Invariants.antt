use Rattle.std.proofs.Common.{take}
use Rattle.image_names.specs.Names.{HoldSame}
use Rattle.image_graph.proofs.clashes.text_names.Given as goal

abbrev pub invariant-loop-text : goal.invariant-loop-text
invariant-loop-text l = HoldSame l.names (take l.text-index l.texts)
