use Rattle.placed_layouts.proofs.Joined.{placed_is_layout}
use Rattle.placed_layouts.proofs.placed_is_layout.Goals as goal

pub returns : goal.returns
returns c = placed_is_layout
