use Rattle.build_laws.proofs.Graphs.{graphs_are_built}
use Rattle.build_laws.proofs.laws.graphs_are_built.Goals as goal

pub returns : goal.returns
returns c = graphs_are_built
