use Rattle.std.proofs.Common.{ℕ, ◌+◌, rules, subst}
use Rattle.span_cover.specs.Cover.{Meets}
use Rattle.sparse_text.specs.Blocks.{block_span}
use Rattle.sparse_cover.proofs.Spans.{met_more}
use Rattle.sparse_cover.proofs.stretches.covered_blocks.Goals as goal

pub loop-count-preserved : goal.loop-count-preserved
loop-count-preserved c =
    let met = subst (λ (n : ℕ). Meets c.args.cover.now (block_span c.args.block (c.args.first + n))) c.from.ensures (c.is_met.ensures.yes (search rules)) in
    met_more c.args.cover.now c.args.block c.args.first c.loop-count.count c.loop-count.invariant met
