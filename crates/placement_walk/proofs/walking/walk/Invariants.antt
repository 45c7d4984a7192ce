use Rattle.placement_rules.specs.Terms.{holes_of}
use Rattle.placement_walk.proofs.Steps.{IsUpTo}
use Rattle.placement_walk.proofs.walking.walk.Given as goal

abbrev pub invariant-loop-number : goal.invariant-loop-number
invariant-loop-number l = IsUpTo l.frame l.terms (holes_of l.spec) l.number l.earlier
