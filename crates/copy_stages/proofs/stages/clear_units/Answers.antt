use Rattle.std.proofs.Common.{arith}
use Rattle.copy_stages.proofs.StageLemmas.{clearing_keeps_since, touching_keeps_opened, touching_keeps_own}
use Rattle.copy_stages.proofs.stages.clear_units.Goals as goal

pub returns-in_err-clear_range-clause-since : goal.returns-in_err-clear_range-clause-since
returns-in_err-clear_range-clause-since g c told = clearing_keeps_since (c.clear_range.ensures.moves told)

pub returns-clause-since : goal.returns-clause-since
returns-clause-since g c told = clearing_keeps_since (c.clear_range.ensures.moves told)

pub returns-in_err-clear_range-clause-own : goal.returns-in_err-clear_range-clause-own
returns-in_err-clear_range-clause-own g c told = touching_keeps_own (omega arith) (c.clear_range.ensures.moves told)

pub returns-clause-own : goal.returns-clause-own
returns-clause-own g c told = touching_keeps_own (omega arith) (c.clear_range.ensures.moves told)

pub returns-in_err-clear_range-clause-still : goal.returns-in_err-clear_range-clause-still
returns-in_err-clear_range-clause-still g c told = touching_keeps_opened (omega arith) (c.clear_range.ensures.moves told) (c.requires.opened told)

pub returns-clause-still : goal.returns-clause-still
returns-clause-still g c told = touching_keeps_opened (omega arith) (c.clear_range.ensures.moves told) (c.requires.opened told)
