use Rattle.std.proofs.Common.{rules}
use Rattle.job_stages.proofs.PrintingLemmas.{one_printed}
use Rattle.job_answers.proofs.printing.refuse.Goals as goal

pub returns-clause-prints : goal.returns-clause-prints
returns-clause-prints g c = one_printed _ _ _ _ _ c.line.result (search rules) (search rules) (search rules)
