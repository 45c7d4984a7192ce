use Rattle.std.proofs.Common.{◌≡◌, drop}
use Rattle.image_graph.specs.Clashes.{file_fault}
use Rattle.image_names.specs.Counts.{first_fault}
use Rattle.image_graph.proofs.clashes.file_among.Given as goal

abbrev pub invariant-loop-spec : goal.invariant-loop-spec
invariant-loop-spec l = first_fault (file_fault l.names) l.specs ≡ first_fault (file_fault l.names) (drop l.spec-index l.specs)
