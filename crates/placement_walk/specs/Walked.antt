-- What a walk over the partitions gives: all of them in their places, or the first that can't stand.
use Rattle.std.specs.Prelude.{◌≡◌, ℕ, List, [], ◌∷◌, ◌++◌, Option, Some, None, All}
use Rattle.placement_rules.specs.Bounds.{IsStanding}
use Rattle.placement_rules.specs.Faults.{first_fault, own_fault, part_fault}
use Rattle.placement_rules.specs.Places.{Stood}
use Rattle.placement_rules.specs.declared.faults.PartFault.{PartFault}
use Rattle.placement_rules.specs.declared.terms.Frame.{Frame}
use Rattle.placement_walk.specs.declared.faults.StepFault.{StepFault}
use Rattle.placement_walk.specs.declared.faults.StepFault.TheVariants as step
use Rattle.placement_walk.specs.declared.faults.WalkFault.{WalkFault}
use Rattle.placement_walk.specs.declared.faults.WalkFault.TheVariants as walk

-- the fault that is said, or want of memory
abbrev pub IsStepFault : Option PartFault → StepFault → Type 0
IsStepFault said (step.Part fault) = said ≡ Some fault
IsStepFault said step.NoMemory = Unit {0}

abbrev pub IsWalkFault : Option (ℕ × PartFault) → WalkFault → Type 0
IsWalkFault said (walk.Part number fault) = said ≡ Some (number, fault)
IsWalkFault said walk.NoMemory = Unit {0}

abbrev pub Stands : Frame → Stood → Type 0
Stands frame s = IsStanding frame s.terms s.place

-- a partition is the one that was to stand, and nothing of its own refuses it
pub record IsHeldAt (frame : Frame) (wanted s : Stood) : Type 0 where
  pub same : s ≡ wanted
  pub fine : own_fault frame wanted ≡ None
  pub stands : Stands frame wanted

-- one more that was to stand, and nothing refuses it
pub record IsBehind (frame : Frame) (before : List Stood) (wanted : Stood) (after : List Stood) : Type 0 where
  pub same : after ≡ before ++ wanted ∷ []
  pub fine : part_fault frame before wanted ≡ None
  pub stands : Stands frame wanted

-- all that were to stand, and nothing refuses any
pub record AreWalked (frame : Frame) (wanted ss : List Stood) : Type 0 where
  pub same : ss ≡ wanted
  pub fine : first_fault frame [] wanted ≡ None
  pub stand : All (Stands frame) ss
