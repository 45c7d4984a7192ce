use Rattle.placed_layouts.proofs.Determined.{placed_determines}
use Rattle.placed_layouts.proofs.placed_determines.Goals as goal

pub returns : goal.returns
returns c = placed_determines
