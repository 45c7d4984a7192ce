-- A plan whose layout can be covered.
use Rattle.image_layout.specs.IsLayout.{IsLayout}
use Rattle.scenario_layouts.specs.declared.planning.Plan.{Plan}
use Rattle.scenario_layouts.specs.declared.planning.Plan.TheVariants.{Placed, Refused}

abbrev pub IsPlan : Plan → Type 0
IsPlan (Placed layout) = IsLayout layout
IsPlan (Refused fault) = Unit {0}
