use Rattle.block_map.proofs.Ranges.{range_cut, units_are}
use Rattle.block_map.proofs.laws.units_are_the_mapped_bytes.Goals as goal

pub returns-clause-all : goal.returns-clause-all
returns-clause-all c = units_are

pub returns-clause-range : goal.returns-clause-range
returns-clause-range c = range_cut
