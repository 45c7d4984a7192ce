use Rattle.placement.proofs.PartLists.{PartsBy}
use Rattle.placement.proofs.parts.parts_of.Given as goal
use Rattle.placement.specs.Layouts.{wholes_as}
use Rattle.placement_rules.specs.Terms.{names_of}

abbrev pub invariant-loop-k : goal.invariant-loop-k
invariant-loop-k l = PartsBy (names_of l.spec) l.spec.sources (wholes_as l.spec.kind l.spec.keys.parts) l.claims l.k l.parts
