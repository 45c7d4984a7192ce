use Rattle.block_map.proofs.Numbering.{unit_numbered, number_is, ranges_have_units}
use Rattle.block_map.proofs.laws.units_have_numbers.Goals as goal

pub returns-clause-of_range : goal.returns-clause-of_range
returns-clause-of_range c = unit_numbered

pub returns-clause-of_number : goal.returns-clause-of_number
returns-clause-of_number c = number_is

pub returns-clause-rise : goal.returns-clause-rise
returns-clause-rise c = ranges_have_units
