use Rattle.std.proofs.Common.{◌≡◌, ℕ, ◌<◌, ◌≤◌, length, get_or, take}
use Rattle.block_map.specs.declared.maps.Range.{Range}
use Rattle.block_map.specs.Maps.{blocks_in}
use Rattle.block_map.proofs.maps.blocks_in.Given as goal

abbrev pub invariant-loop-range : goal.invariant-loop-range
invariant-loop-range l = record {
  sum : l.count ≡ blocks_in (take l.range-index l.ranges);
  before : (j : ℕ) (d : Range) → l.range-index ≤ j → j < length l.ranges → l.count ≤ (get_or l.ranges j d).first;
}
