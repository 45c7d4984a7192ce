use Rattle.std.proofs.Common.{inl}
use Rattle.image_jobs.proofs.map_arm.map_conf.Goals as goal

pub returns-in-Err-clause-shown : goal.returns-in-Err-clause-shown
returns-in-Err-clause-shown g c = inl (c.in-Err.ensures.shown _ _)
