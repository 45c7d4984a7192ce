use Rattle.copy_stages.proofs.StageLemmas.{writing_keeps_own, writing_keeps_since}
use Rattle.copy_stages.proofs.stages.write_unit.Goals as goal

pub returns-in_err-write_at-clause-since : goal.returns-in_err-write_at-clause-since
returns-in_err-write_at-clause-since g c told = writing_keeps_since c.write_at.ensures.touches

pub returns-clause-since : goal.returns-clause-since
returns-clause-since g c told = writing_keeps_since c.write_at.ensures.touches

pub returns-in_err-write_at-clause-own : goal.returns-in_err-write_at-clause-own
returns-in_err-write_at-clause-own g c told = writing_keeps_own c.write_at.ensures.touches

pub returns-clause-own : goal.returns-clause-own
returns-clause-own g c told = writing_keeps_own c.write_at.ensures.touches
