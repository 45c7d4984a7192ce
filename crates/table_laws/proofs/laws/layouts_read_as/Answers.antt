use Rattle.table_laws.proofs.Layouts.{layouts_read_as}
use Rattle.table_laws.proofs.laws.layouts_read_as.Goals as goal

pub returns : goal.returns
returns c = layouts_read_as
