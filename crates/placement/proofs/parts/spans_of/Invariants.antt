use Rattle.std.proofs.Common.{◌≡◌, take}
use Rattle.std.specs.Prelude.{map}
use Rattle.placement.proofs.parts.spans_of.Given as goal
use Rattle.placement.specs.Layouts.{hole_span}

abbrev pub invariant-loop-hole : goal.invariant-loop-hole
invariant-loop-hole l = l.spans ≡ map hole_span (take l.hole-index l.holes)
