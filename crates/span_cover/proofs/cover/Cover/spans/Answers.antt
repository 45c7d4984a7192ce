use Rattle.span_cover.proofs.Unique.{one_list}
use Rattle.span_cover.proofs.cover.Cover.spans.Goals as goal

pub returns-clause-only : goal.returns-clause-only
returns-clause-only c other apart same = one_list other c.args.self.now apart (rw (← c.self.view_is) c.self.invariant.apart) same
