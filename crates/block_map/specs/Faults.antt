-- Why a map has no units.
use Rattle.std.specs.Prelude.{◌≡◌, ℕ, ◌<◌, ◌≤◌}
use Rattle.block_map.specs.declared.units.UnitFault.{UnitFault}
use Rattle.block_map.specs.declared.units.UnitFault.TheVariants.{TooManyUnits, NoMemory}
use Rattle.block_map.specs.Units.{max_units}

-- the units of a map, so many in all, are refused exactly where they are more than there may be; memory is asked for
-- behind that
abbrev pub IsCause : ℕ → UnitFault → Type 0
IsCause units (TooManyUnits count limit) = (max_units < units) × (count ≡ units) × (limit ≡ max_units)
IsCause units NoMemory = units ≤ max_units
