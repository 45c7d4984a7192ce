use Rattle.std.proofs.Common.{◌≡◌, drop}
use Rattle.placement_rules.specs.Faults.{bad_hole}
use Rattle.placement_rules.proofs.checks.check_holes.Given as goal

abbrev pub invariant-loop-index : goal.invariant-loop-index
invariant-loop-index l = bad_hole l.from l.index (drop l.index l.holes) ≡ bad_hole 0 0 l.holes
