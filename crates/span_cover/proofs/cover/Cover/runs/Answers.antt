use Rattle.std.proofs.Common.{arith}
use Rattle.span_cover.proofs.Touching.{touched_more}
use Rattle.span_cover.proofs.cover.Cover.runs.Goals as goal

pub loop-span-preserved : goal.loop-span-preserved
loop-span-preserved c = record {
  cover = c.in_ok-insert.ensures.cover;
  exact = touched_more c.deref-span-items.result.now c.loop-span.span-index c.args.size c.args.block _ c.blocks_of.result c.loop-span.runs.items c.insert.new.spans.items
      c.loop-span-test.true c.in_ok-insert.ensures.ok c.blocks_of.ensures.exact c.loop-span.invariant.exact;
  few = omega (arith, c.in_ok-insert.ensures.few, c.loop-span.invariant.few);
}
