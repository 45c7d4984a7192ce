use Rattle.std.proofs.Common.{◌<◌, ◌≤◌}
use Rattle.sparse_cover.proofs.stretches.bare_blocks.Given as goal

-- there is a block, and no more than at first
abbrev pub invariant-loop-count : goal.invariant-loop-count
invariant-loop-count l = record {
  some : 0 < l.count;
  within : l.count ≤ l.rest;
}

abbrev pub decreases-loop-count : goal.decreases-loop-count
decreases-loop-count l = l.count
