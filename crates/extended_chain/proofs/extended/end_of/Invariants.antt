use Rattle.std.proofs.Common.{◌≡◌, drop}
use Rattle.std.specs.Prelude.{max}
use Rattle.extended_chain.specs.Extended.{greatest_end}
use Rattle.extended_chain.proofs.extended.end_of.Given as goal

abbrev pub invariant-loop-spec : goal.invariant-loop-spec
invariant-loop-spec l = max l.end (greatest_end (drop l.spec-index l.specs)) ≡ greatest_end l.specs
