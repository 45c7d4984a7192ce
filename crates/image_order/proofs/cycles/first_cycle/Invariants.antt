use Rattle.std.proofs.Common.{◌≡◌, ◌-◌, length}
use Rattle.std.specs.Prelude.{find}
use Rattle.std.specs.List.{range_with_len}
use Rattle.image_order.specs.Chains.{first_cycle, returns}
use Rattle.image_order.proofs.cycles.first_cycle.Given as goal

abbrev pub invariant-loop-image : goal.invariant-loop-image
invariant-loop-image l = first_cycle l.families ≡ find (returns l.families) (range_with_len l.image (length l.families - l.image))
