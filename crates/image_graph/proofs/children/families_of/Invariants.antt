use Rattle.std.proofs.Common.{◌≡◌, take, map}
use Rattle.image_graph.specs.Children.{children_of}
use Rattle.image_graph.proofs.children.families_of.Given as goal

abbrev pub invariant-loop-spec : goal.invariant-loop-spec
invariant-loop-spec l = l.families ≡ map children_of (take l.spec-index l.specs)
