use Rattle.std.proofs.Common.{ℕ, ◌-◌, ◌^◌, ◌<◌, ◌≤◌}
use Rattle.std.specs.Prelude.{slice_index_or}
use Rattle.block_map.specs.declared.maps.Range.{Range}
use Rattle.scenario_covers.proofs.ranges.are_ranges.Given as goal

-- those before stand as they are to
abbrev pub invariant-loop-k : goal.invariant-loop-k
invariant-loop-k l = record {
  filled : (i : ℕ) (d : Range) → i < l.k → (slice_index_or l.ranges i d).first ≤ (slice_index_or l.ranges i d).last;
  ascend : (i j : ℕ) (d : Range) → i < j → j < l.k →
      (slice_index_or l.ranges i d).last < (slice_index_or l.ranges j d).first;
  fits : (i : ℕ) (d : Range) → i < l.k → (slice_index_or l.ranges i d).last < 2 ^ 64 - 1;
}
