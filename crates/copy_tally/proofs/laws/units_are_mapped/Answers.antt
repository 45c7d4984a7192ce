use Rattle.copy_tally.proofs.Mapped.{units_are_mapped}
use Rattle.copy_tally.proofs.laws.units_are_mapped.Goals as goal

pub returns : goal.returns
returns c = units_are_mapped
