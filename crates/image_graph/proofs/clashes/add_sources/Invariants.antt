use Rattle.std.proofs.Common.{take, ◌++◌}
use Rattle.std.specs.List.{flat_map}
use Rattle.image_graph.specs.Clashes.{ready_name}
use Rattle.image_names.specs.Names.{HoldSame}
use Rattle.image_graph.proofs.clashes.add_sources.Given as goal

abbrev pub invariant-loop-source : goal.invariant-loop-source
invariant-loop-source l = HoldSame l.names (l.initial.names ++ flat_map ready_name (take l.source-index l.sources))
