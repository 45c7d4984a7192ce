use Rattle.std.proofs.Common.{length}
use Rattle.verify_job.proofs.Bounds.{nothing_done}
use Rattle.verify_job.proofs.verifying.verify_target.Goals as goal

pub returns-in-Err-clause-bounded : goal.returns-in-Err-clause-bounded
returns-in-Err-clause-bounded g c = nothing_done (length c.args.target.now) (g.B.Bench.meter c.args.bench.now)
