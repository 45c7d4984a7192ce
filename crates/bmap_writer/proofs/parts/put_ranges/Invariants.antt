use Rattle.std.proofs.Common.{◌≡◌, ◌++◌, drop, map}
use Rattle.bmap_writer.specs.Written.{range_line, text_of}
use Rattle.bmap_writer.proofs.parts.put_ranges.Given as goal

-- the text so far and the lines of the ranges that are left are the whole
abbrev pub invariant-loop-range : goal.invariant-loop-range
invariant-loop-range l =
    l.text.items ++ text_of (map range_line (drop l.range-index l.ranges)) ≡
    l.fn.text.items ++ text_of (map range_line l.ranges)
