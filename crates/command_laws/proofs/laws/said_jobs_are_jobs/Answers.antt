use Rattle.command_laws.proofs.MapLemmas.{said_job, said_map}
use Rattle.command_laws.proofs.laws.said_jobs_are_jobs.Goals as goal

pub returns-clause-map : goal.returns-clause-map
returns-clause-map c = said_map

pub returns-clause-job : goal.returns-clause-job
returns-clause-job c = said_job
