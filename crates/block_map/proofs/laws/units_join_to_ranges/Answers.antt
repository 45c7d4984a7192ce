use Rattle.block_map.proofs.Joining.{first_units_join, units_join}
use Rattle.block_map.proofs.laws.units_join_to_ranges.Goals as goal

pub returns-clause-first : goal.returns-clause-first
returns-clause-first c = first_units_join

pub returns-clause-all : goal.returns-clause-all
returns-clause-all c = units_join
