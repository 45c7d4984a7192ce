use Rattle.std.proofs.Common.{◌≡◌, take}
use Rattle.std.specs.List.{filter_map}
use Rattle.image_graph.proofs.children.children_of.Given as goal

abbrev pub invariant-loop-source : goal.invariant-loop-source
invariant-loop-source l = l.children ≡ filter_map (λ source. source.child) (take l.source-index l.source-items)
