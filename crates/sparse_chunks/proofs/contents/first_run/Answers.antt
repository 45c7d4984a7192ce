use Rattle.std.proofs.Common.{List, ℕ, subst, rules}
use Rattle.sparse_text.specs.Blocks.{HasForm}
use Rattle.sparse_chunks.proofs.Blocks.{one_more}
use Rattle.sparse_chunks.proofs.contents.first_run.Goals as goal

pub loop-number-preserved : goal.loop-number-preserved
loop-number-preserved c i h =
    let here = subst (λ (xs : List ℕ). HasForm xs c.content_of.result) c.nth_block-in-loop-number.ensures c.content_of.ensures in
    one_more c.args.block c.args.window.now c.content_of-content.result c.content_of.result c.loop-number.number i c.loop-number.invariant here (search rules) h
