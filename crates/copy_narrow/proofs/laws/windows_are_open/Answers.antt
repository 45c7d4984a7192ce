use Rattle.copy_narrow.proofs.NearLemmas.{empty_window_is_settled, window_is_open, window_takes_unit}
use Rattle.copy_narrow.proofs.laws.windows_are_open.Goals as goal

pub returns-clause-window : goal.returns-clause-window
returns-clause-window g c = window_is_open _

pub returns-clause-unit : goal.returns-clause-unit
returns-clause-unit g c = window_takes_unit _

pub returns-clause-empty : goal.returns-clause-empty
returns-clause-empty g c = empty_window_is_settled _
