use Rattle.table_laws.proofs.Recognised.{layouts_are_recognised}
use Rattle.table_laws.proofs.laws.layouts_are_recognised.Goals as goal

pub returns : goal.returns
returns c = layouts_are_recognised
