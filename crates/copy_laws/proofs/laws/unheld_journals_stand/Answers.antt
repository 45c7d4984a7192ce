use Rattle.copy_laws.proofs.Events.{unheld_stands, foreign_stands, new_stands, first_start}
use Rattle.copy_laws.proofs.laws.unheld_journals_stand.Goals as goal

pub returns-clause-unheld : goal.returns-clause-unheld
returns-clause-unheld c = unheld_stands

pub returns-clause-foreign : goal.returns-clause-foreign
returns-clause-foreign c = foreign_stands

pub returns-clause-new : goal.returns-clause-new
returns-clause-new c = new_stands

pub returns-clause-first : goal.returns-clause-first
returns-clause-first c = first_start
