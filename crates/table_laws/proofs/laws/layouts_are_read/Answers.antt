use Rattle.table_laws.proofs.Layouts.{layouts_are_read}
use Rattle.table_laws.proofs.laws.layouts_are_read.Goals as goal

pub returns : goal.returns
returns c = layouts_are_read
