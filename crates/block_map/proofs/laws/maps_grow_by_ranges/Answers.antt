use Rattle.block_map.proofs.Growing.{begin, grow, ranges_grow, make}
use Rattle.block_map.proofs.laws.maps_grow_by_ranges.Goals as goal

pub returns-clause-begin : goal.returns-clause-begin
returns-clause-begin c = begin

pub returns-clause-grow : goal.returns-clause-grow
returns-clause-grow c = grow

pub returns-clause-ranges : goal.returns-clause-ranges
returns-clause-ranges c = ranges_grow

pub returns-clause-make : goal.returns-clause-make
returns-clause-make c = make
