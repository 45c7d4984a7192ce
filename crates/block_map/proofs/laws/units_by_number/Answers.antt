use Rattle.block_map.proofs.Numbering.{unit_is, units_apart, mapped_found}
use Rattle.block_map.proofs.laws.units_by_number.Goals as goal

pub returns-clause-bounds : goal.returns-clause-bounds
returns-clause-bounds c = unit_is

pub returns-clause-apart : goal.returns-clause-apart
returns-clause-apart c = units_apart

pub returns-clause-found : goal.returns-clause-found
returns-clause-found c = mapped_found
