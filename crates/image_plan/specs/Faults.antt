-- What shows that an image has no layout.
use Rattle.std.specs.Prelude.{◌≡◌, ℕ, Bool, true, false, List, IsSome, IsSomeAnd, slice_get}
use Rattle.image_specs.specs.declared.specs.Source.{Source}
use Rattle.outside.specs.Counts.{Counts, Rose}
use Rattle.placement_rules.specs.declared.faults.PlaceFault.{PlaceFault}
use Rattle.placement_rules.specs.declared.faults.PlaceFault.TheVariants.{NoMemory}
use Rattle.image_plan.specs.declared.faults.PlanFault.{PlanFault}
use Rattle.image_plan.specs.declared.faults.PlanFault.TheVariants.{Missing, FileFault, Place}

abbrev pub is_memory : PlaceFault → Bool
is_memory NoMemory = true
is_memory other = false

-- a call failed or memory was refused
abbrev pub is_counted : PlanFault → Bool
is_counted (Missing source) = false
is_counted FileFault = true
is_counted (Place fault) = is_memory fault

-- by the counts of the files
abbrev pub IsShown : Counts → Counts → PlanFault → Type 0
IsShown before now (Missing source) = Rose before.absences now.absences
IsShown before now FileFault = Rose before.faults now.faults
IsShown before now (Place fault) = Unit {0}

-- the source of that number has a file
abbrev pub HasFile : List Source → ℕ → Type 0
HasFile sources k = IsSomeAnd (slice_get sources k) (λ source. IsSome source.file)

-- a fault of the lengths of these: nothing is placed
abbrev pub IsLengthFault : List Source → PlanFault → Type 0
IsLengthFault sources (Missing source) = HasFile sources source
IsLengthFault sources FileFault = Unit {0}
IsLengthFault sources (Place fault) = fault ≡ NoMemory

-- the same of the one source of that number, for which no memory is taken
abbrev pub IsOwnFault : ℕ → Source → PlanFault → Type 0
IsOwnFault number source (Missing k) = (k ≡ number) × IsSome source.file
IsOwnFault number source FileFault = Unit {0}
IsOwnFault number source (Place fault) = ⊥
