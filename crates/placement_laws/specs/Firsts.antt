-- Which refusal of a partition comes first, by numbers.
use Rattle.std.specs.Prelude.{◌≡◌, ℕ, ◌<◌, ◌↔◌, List, [], Option, Some, None, length, slice_index_or, take}
use Rattle.placement_rules.specs.Faults.{first_fault, part_fault}
use Rattle.placement_rules.specs.Places.{Stood}
use Rattle.placement_rules.specs.declared.faults.PartFault.{PartFault}
use Rattle.placement_rules.specs.declared.terms.Frame.{Frame}

-- the fault of partition number k, behind all that are listed before it
abbrev pub fault_at : Frame → List Stood → ℕ → Stood → Option PartFault
fault_at frame ss k d = part_fault frame (take k ss) (slice_index_or ss k d)

-- it has that fault, and none that is listed before it has one
pub record IsFirstFault (frame : Frame) (ss : List Stood) (k : ℕ) (fault : PartFault) : Type 0 where
  pub there : k < length ss
  pub has : (d : Stood) → fault_at frame ss k d ≡ Some fault
  pub first : (j : ℕ) (d : Stood) → j < k → fault_at frame ss j d ≡ None

-- none of them has one
abbrev pub HasNoFault : Frame → List Stood → Type 0
HasNoFault frame ss = (k : ℕ) (d : Stood) → k < length ss → fault_at frame ss k d ≡ None

-- the fault that is answered
abbrev pub IsFirst : Frame → List Stood → ℕ → PartFault → Type 0
IsFirst frame ss k f = first_fault frame [] ss ≡ Some (k, f)

-- the first of the faults of partitions is the fault of the first that has one, and there is none where none has one
pub record FirstsExactly : Type 0 where
  pub some : (frame : Frame) (ss : List Stood) (k : ℕ) (f : PartFault) → IsFirst frame ss k f ↔ IsFirstFault frame ss k f
  pub none : (frame : Frame) (ss : List Stood) → first_fault frame [] ss ≡ None ↔ HasNoFault frame ss
