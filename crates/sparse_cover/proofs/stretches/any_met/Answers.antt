use Rattle.std.proofs.Common.{subst, sym}
use Rattle.span_cover.specs.Cover.{Meets}
use Rattle.sparse_cover.proofs.Spans.{met_in, not_true, one_block}
use Rattle.sparse_cover.proofs.stretches.any_met.Goals as goal

pub returns-clause-yes : goal.returns-clause-yes
returns-clause-yes c holds is =
    one_block c.args.cover.now c.args.block c.args.first c.args.count is (subst (Meets c.args.cover.now) c.blocks_span.ensures (c.meets.ensures.0 holds))

pub returns-clause-no : goal.returns-clause-no
returns-clause-no c fails b not_before before met =
    not_true c.meets.result fails
    (c.meets.ensures.1 (subst (Meets c.args.cover.now) (sym c.blocks_span.ensures) (met_in c.args.cover.now c.args.block c.args.first c.args.count b not_before before met)))
