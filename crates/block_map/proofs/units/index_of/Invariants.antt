use Rattle.std.proofs.Common.{◌≡◌, ◌*◌, ◌^◌, ◌≤◌, map, take}
use Rattle.block_map.specs.Index.{IsIndex, rows_of}
use Rattle.block_map.specs.Maps.{range_span}
use Rattle.block_map.specs.Pieces.{pieces}
use Rattle.block_map.proofs.units.index_of.Given as goal

abbrev pub invariant-loop-range : goal.invariant-loop-range
invariant-loop-range l = record {
  index : IsIndex l.unit l.map.size l.first l.parts.items;
  rows : rows_of l.unit l.parts.items ≡ map (λ r. pieces l.unit (range_span l.map r)) (take l.range-index l.range-items);
  few : l.first ≤ l.range-index * 2 ^ 27;
}
