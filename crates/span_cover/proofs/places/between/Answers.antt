use Rattle.span_cover.proofs.Searching.{places_ordered}
use Rattle.span_cover.proofs.places.between.Goals as goal

pub returns-clause-ordered : goal.returns-clause-ordered
returns-clause-ordered c = (
  places_ordered c.args.spans.now c.args.low c.args.high _ _ c.requires.cover c.requires.ordered c.ending_before.ensures.bound c.ending_before.ensures.point c.beginning_before.ensures.point,
  c.beginning_before.ensures.bound,
)
