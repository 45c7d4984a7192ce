use Rattle.std.proofs.Common.{subst, sym}
use Rattle.span_cover.specs.Cover.{Meets}
use Rattle.sparse_cover.proofs.Spans.{not_true}
use Rattle.sparse_cover.proofs.stretches.is_met.Goals as goal

pub returns-clause-yes : goal.returns-clause-yes
returns-clause-yes c holds = subst (Meets c.args.cover.now) c.block_span.ensures (c.meets.ensures.0 holds)

pub returns-clause-no : goal.returns-clause-no
returns-clause-no c fails met = not_true c.meets.result fails (c.meets.ensures.1 (subst (Meets c.args.cover.now) (sym c.block_span.ensures) met))
