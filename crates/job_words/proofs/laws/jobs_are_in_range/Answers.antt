use Rattle.job_words.proofs.Ranges.{in_range}
use Rattle.job_words.proofs.laws.jobs_are_in_range.Goals as goal

pub returns : goal.returns
returns c = in_range
