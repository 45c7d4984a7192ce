use Rattle.std.proofs.Common.{◌≡◌, ◌+◌, drop}
use Rattle.std.specs.List.{position_or_len}
use Rattle.std.specs.Str.{bytes_eq}
use Rattle.image_graph.proofs.images.Graph.find.Given as goal

abbrev pub invariant-loop-spec : goal.invariant-loop-spec
invariant-loop-spec l =
    let test = λ (spec : _). bytes_eq l.name spec.name in
    record {
      count : l.number ≡ l.spec-index;
      rest : position_or_len test l.spec-items ≡ l.spec-index + position_or_len test (drop l.spec-index l.spec-items);
    }
