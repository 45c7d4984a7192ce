use Rattle.copy_chains.proofs.CopyLemmas.{done_runs, looks_of_chains, one_job, runs_of_chains, says_job}
use Rattle.copy_chains.proofs.laws.copies_are_of_chains.Goals as goal

pub returns-clause-said : goal.returns-clause-said
returns-clause-said g c = says_job

pub returns-clause-one : goal.returns-clause-one
returns-clause-one g c = one_job

pub returns-clause-runs : goal.returns-clause-runs
returns-clause-runs g c = runs_of_chains g.F.Files.told g.B.Bench.disk

pub returns-clause-looks : goal.returns-clause-looks
returns-clause-looks g c = looks_of_chains g.B.Bench.disk

pub returns-clause-done : goal.returns-clause-done
returns-clause-done g c = done_runs g.B.Bench.disk
