use Rattle.std.proofs.Common.{◌+◌, ◌*◌, ◌≤◌, length, take}
use Rattle.std.specs.List.{list_any}
use Rattle.image_layout.specs.Covering.{Gains, is_shown}
use Rattle.image_layout.proofs.covering.add_parts.Given as goal

abbrev pub invariant-loop-part : goal.invariant-loop-part
invariant-loop-part l = record {
  gained : Gains l.fn.cover (λ o. list_any (λ p. is_shown p o) (take l.part-index l.parts)) l.cover;
  few : length l.cover ≤ length l.fn.cover + 65 * l.part-index;
}
