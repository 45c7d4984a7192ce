use Rattle.copy_tally.proofs.Counts.{tallies_are_one}
use Rattle.copy_tally.proofs.laws.tallies_are_one.Goals as goal

pub returns : goal.returns
returns c = tallies_are_one
