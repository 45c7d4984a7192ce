use Rattle.std.proofs.Common.{rules}
use Rattle.job_answers.proofs.SaidLemmas.{error_line}
use Rattle.image_jobs.proofs.list_arm.run_list.Goals as goal

pub returns-in-Err-clause-prints : goal.returns-in-Err-clause-prints
returns-in-Err-clause-prints g c = λ told. rw (error_line _ _ c.refuse.result c.refuse.ensures.refusal) (search rules)
