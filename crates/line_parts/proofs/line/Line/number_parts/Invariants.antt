use Rattle.std.proofs.Common.{◌≡◌, ◌+◌, ◌≤◌, length, drop, map, sum_by}
use Rattle.line_parts.specs.Line.{part_numbered, part_room, with_fields}
use Rattle.line_parts.proofs.line.Line.number_parts.Given as goal

-- what is left behind the line so far makes the whole, and there is room for it
abbrev pub invariant-loop-name : goal.invariant-loop-name
invariant-loop-name l = record {
  whole : with_fields l.line (map (part_numbered l.fn.key) (drop l.name-index l.numbers)) ≡ with_fields l.fn.self (map (part_numbered l.fn.key) l.numbers);
  room : length l.line + sum_by (part_room (length l.fn.key)) (drop l.name-index l.numbers) ≤ length l.fn.self + sum_by (part_room (length l.fn.key)) l.numbers;
}
