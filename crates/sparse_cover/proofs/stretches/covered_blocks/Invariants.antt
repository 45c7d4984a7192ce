use Rattle.sparse_cover.specs.Stretches.{AreMet}
use Rattle.sparse_cover.proofs.stretches.covered_blocks.Given as goal

-- the blocks so far
abbrev pub invariant-loop-count : goal.invariant-loop-count
invariant-loop-count l = AreMet l.cover l.block l.first l.count
