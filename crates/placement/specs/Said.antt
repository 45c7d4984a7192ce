-- What placing an image gives: the first refusal in its order, or the layout.
use Rattle.std.specs.Prelude.{◌≡◌, ℕ, ◌<◌, Bool, ◌&&◌, nat_lt, if◌then◌else◌, List, [], ◌∷◌, Option, Some, None, codes, length, option_map, slice_index_or, unwrap_or}
use Rattle.std.specs.List.{position}
use Rattle.base_fields.specs.Results.{provided}
use Rattle.image_specs.specs.declared.specs.ImageSpec.{ImageSpec}
use Rattle.placement_rules.specs.Faults.{◌or◌, first_fault, most_bytes, off_multiple, where_so}
use Rattle.placement_rules.specs.Frames.{frame_of, has_guid, has_table}
use Rattle.placement.specs.Layouts.{is_primary, needs_of}
use Rattle.placement_rules.specs.Places.{Stood, end_of, greatest, stood}
use Rattle.placement_rules.specs.Terms.{in_tables, names_of}
use Rattle.placement_rules.specs.declared.faults.Meeting.{Meeting}
use Rattle.placement_rules.specs.declared.faults.Meeting.TheVariants as meeting
use Rattle.placement_rules.specs.declared.faults.PartFault.{PartFault}
use Rattle.placement_rules.specs.declared.faults.PartFault.TheVariants as part_fault
use Rattle.placement_rules.specs.declared.faults.PlaceFault.{PlaceFault}
use Rattle.placement_rules.specs.declared.faults.PlaceFault.TheVariants as fault
use Rattle.placement_rules.specs.declared.terms.Frame.{Frame}

-- ---- names

abbrev pub name_at : List (List ℕ) → ℕ → List ℕ
name_at names k = slice_index_or names k []

-- what a partition meets, by its name
abbrev pub met_name : List (List ℕ) → Meeting → List ℕ
met_name names meeting.Mbr = codes "[mbr]"
met_name names meeting.Header = codes "[gpt-header]"
met_name names meeting.Entries = codes "[gpt-entries]"
met_name names meeting.Front = codes "[front]"
met_name names (meeting.Earlier k) = name_at names k

-- the fault of the partition of this name
abbrev pub named : List (List ℕ) → List ℕ → PartFault → PlaceFault
named names part (part_fault.Misaligned value align) = fault.Misaligned part value align
named names part (part_fault.BadHoles index) = fault.BadHoles part index
named names part (part_fault.BadAutoresize room least) = fault.BadAutoresize part room least
named names part (part_fault.FileTooLarge has limit) = fault.FileTooLarge part has limit
named names part part_fault.NoSize = fault.NoSize part
named names part (part_fault.TooFar number limit) = fault.TooFar part number limit
named names part (part_fault.Meets met) = fault.Overlap part (met_name names met)

-- ---- the image, first

abbrev pub too_many_entries : ImageSpec → Frame → Option PlaceFault
too_many_entries spec frame =
    provided (has_guid frame.table && nat_lt 128 (length (in_tables frame.table spec.keys.parts)))
    (fault.TooManyEntries (length (in_tables frame.table spec.keys.parts)))

-- the size and the place of the entries are multiples of a sector where there is a table
abbrev pub image_misaligned : ImageSpec → Frame → Option PlaceFault
image_misaligned spec frame =
    option_map (λ n. fault.Misaligned spec.name n frame.sector)
    (where_so (has_table frame.table) (off_multiple frame.size frame.sector or off_multiple (Some frame.entries_at) frame.sector))

abbrev pub image_first : ImageSpec → Frame → Option PlaceFault
image_first spec frame = too_many_entries spec frame or image_misaligned spec frame

-- ---- the partitions

abbrev pub partition_fault : ImageSpec → Frame → List Stood → Option PlaceFault
partition_fault spec frame ss =
    option_map (λ found. named (names_of spec) (name_at (names_of spec) found.0) found.1) (first_fault frame [] ss)

-- ---- the image, last

-- where the record of the first logical partition stands
abbrev pub extended_start : List Stood → Option ℕ
extended_start [] = None
extended_start (s ∷ ss) = s.place.head or extended_start ss

abbrev pub logical_ends : List Stood → List ℕ
logical_ends [] = []
logical_ends (s ∷ ss) = if s.terms.logical then end_of s ∷ logical_ends ss else logical_ends ss

-- a primary partition whose bytes meet those from one offset to another
abbrev pub is_primary_in : ℕ → ℕ → Stood → Bool
is_primary_in from to s = is_primary s && nat_lt s.place.at to && nat_lt from (end_of s) && nat_lt s.place.at (end_of s) && nat_lt from to

-- the first primary partition that meets the extended one, which reaches from the first record to the greatest end
abbrev pub in_extended : List Stood → Option ℕ → Option ℕ
in_extended ss None = None
in_extended ss (Some start) = position (is_primary_in start (greatest (logical_ends ss))) ss

abbrev pub extended_overlap : ImageSpec → List Stood → Option PlaceFault
extended_overlap spec ss =
    option_map (λ k. fault.Overlap (name_at (names_of spec) k) (codes "[extended]")) (in_extended ss (extended_start ss))

abbrev pub above_most : ImageSpec → ℕ → Option PlaceFault
above_most spec n = provided (nat_lt most_bytes n) (fault.TooFar spec.name n most_bytes)

abbrev pub too_small : Option ℕ → ℕ → Option PlaceFault
too_small None needs = None
too_small (Some has) needs = provided (nat_lt has needs) (fault.ImageTooSmall has needs)

abbrev pub image_last : ImageSpec → Frame → List Stood → Option PlaceFault
image_last spec frame ss =
    extended_overlap spec ss
    or above_most spec (needs_of frame ss)
    or above_most spec (unwrap_or frame.size 0)
    or too_small frame.size (needs_of frame ss)

-- ---- the first of all

abbrev pub refusal_in : ImageSpec → Frame → List Stood → Option PlaceFault
refusal_in spec frame ss = image_first spec frame or partition_fault spec frame ss or image_last spec frame ss

-- why an image isn't placed
abbrev pub refusal : ImageSpec → List ℕ → Option PlaceFault
refusal spec lens = refusal_in spec (frame_of spec) (stood spec lens)

-- ---- what is answered

-- the fault that is said, or want of memory
abbrev pub IsFaultOf : Option PlaceFault → PlaceFault → Type 0
IsFaultOf said fault.NoMemory = Unit {0}
IsFaultOf said found = said ≡ Some found

-- an earlier partition that is met has a name
abbrev pub IsKnown : ℕ → Meeting → Type 0
IsKnown count (meeting.Earlier k) = k < count
IsKnown count _ = Unit {0}

abbrev pub IsFaultKnown : ℕ → PartFault → Type 0
IsFaultKnown count (part_fault.Meets met) = IsKnown count met
IsFaultKnown count _ = Unit {0}
