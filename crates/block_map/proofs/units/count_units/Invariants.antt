use Rattle.std.proofs.Common.{◌≡◌, ◌*◌, ◌^◌, ◌≤◌, length, map, take}
use Rattle.block_map.specs.Maps.{range_span}
use Rattle.block_map.specs.Pieces.{pieces}
use Rattle.block_map.specs.Units.{joined}
use Rattle.block_map.proofs.units.count_units.Given as goal

abbrev pub invariant-loop-range : goal.invariant-loop-range
invariant-loop-range l = record {
  exact : l.count ≡ length (joined (map (λ r. pieces l.unit (range_span l.map r)) (take l.range-index l.range-items)));
  few : l.count ≤ l.range-index * 2 ^ 27;
}
