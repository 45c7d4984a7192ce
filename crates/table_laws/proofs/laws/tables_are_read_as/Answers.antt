use Rattle.table_laws.proofs.Tables.{tables_are_read_as}
use Rattle.table_laws.proofs.laws.tables_are_read_as.Goals as goal

pub returns : goal.returns
returns c = tables_are_read_as
