use Rattle.std.proofs.Common.{◌≡◌, ◌+◌, ◌≤◌, ◌++◌, drop, length, map}
use Rattle.table_lines.specs.Lines.{shown_unit}
use Rattle.table_lines.proofs.parts.with_units.Given as goal

-- what is left behind the line so far makes the whole, and there is room for it
abbrev pub invariant-loop-unit : goal.invariant-loop-unit
invariant-loop-unit l = record {
  whole : l.line ++ map shown_unit (drop l.unit-index l.units) ≡ l.fn.line ++ map shown_unit l.units;
  room : length l.line + length (drop l.unit-index l.units) ≤ length l.fn.line + length l.units;
}
