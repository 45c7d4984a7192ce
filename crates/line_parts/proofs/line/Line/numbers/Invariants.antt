use Rattle.std.proofs.Common.{◌≡◌, ◌+◌, ◌≤◌, length, drop, map, sum_by}
use Rattle.line_parts.specs.Line.{number_room, numbered, with_fields}
use Rattle.line_parts.proofs.line.Line.numbers.Given as goal

-- what is left behind the line so far makes the whole, and there is room for it
abbrev pub invariant-loop-key : goal.invariant-loop-key
invariant-loop-key l = record {
  whole : with_fields l.line (map numbered (drop l.key-index l.numbers)) ≡ with_fields l.fn.self (map numbered l.numbers);
  room : length l.line + sum_by number_room (drop l.key-index l.numbers) ≤ length l.fn.self + sum_by number_room l.numbers;
}
