use Rattle.std.proofs.Common.{◌≡◌, ◌+◌, replicate}
use Rattle.region_pool.proofs.block.Block.zeroed.Given as goal

abbrev pub invariant-loop-at : goal.invariant-loop-at
invariant-loop-at l = (l.bytes.at ≡ l.start.ptr) × (l.bytes.items ≡ replicate l.at 0) × (l.bytes.spare + l.at ≡ l.len)
