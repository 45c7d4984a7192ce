use Rattle.std.proofs.Common.{◌+◌, ◌≤◌, length}
use Rattle.image_layout.proofs.Between.{IsBetween}
use Rattle.image_layout.proofs.covering.add_between.Given as goal

abbrev pub invariant-loop-hole : goal.invariant-loop-hole
invariant-loop-hole l = record {
  between : IsBetween l.fn.cover l.at l.reach l.holes l.hole-index l.from l.cover;
  few : length l.cover ≤ length l.fn.cover + l.hole-index;
}
