use Rattle.table_laws.proofs.Tables.{tables_are_one, tables_or_refusal}
use Rattle.table_laws.proofs.laws.tables_or_refusal.Goals as goal

pub returns-clause-either : goal.returns-clause-either
returns-clause-either c = tables_or_refusal

pub returns-clause-one : goal.returns-clause-one
returns-clause-one c = tables_are_one
