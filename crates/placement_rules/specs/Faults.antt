-- What refuses the placing of a partition, each by a word of its own, and which of these comes first.
use Rattle.std.specs.Prelude.{ℕ, suc, ◌+◌, ◌-◌, ◌/◌, ◌%◌, ◌^◌, max, Bool, true, false, not, ◌&&◌, ◌||◌, ◌==◌, nat_le, nat_lt, if◌then◌else◌, List, [], ◌∷◌, ◌++◌, Option, Some, None, Result, Ok, Err, length, option_map, unwrap_or}
use Rattle.std.specs.Option.{option_or}
use Rattle.base_fields.specs.Results.{provided}
use Rattle.conf_values.specs.declared.values.Hole.{Hole}
use Rattle.placement_rules.specs.Claims.{in_run, meets, occupies}
use Rattle.placement_rules.specs.Frames.{entries_len, has_guid, has_table}
use Rattle.placement_rules.specs.Places.{Stood, end_of}
use Rattle.placement_rules.specs.declared.faults.Meeting.{Meeting}
use Rattle.placement_rules.specs.declared.faults.Meeting.TheVariants as meeting
use Rattle.placement_rules.specs.declared.faults.PartFault.{PartFault}
use Rattle.placement_rules.specs.declared.faults.PartFault.TheVariants as fault
use Rattle.placement_rules.specs.declared.terms.Frame.{Frame}
use Rattle.placement_rules.specs.declared.terms.Place.{Place}
use Rattle.placement_rules.specs.declared.terms.Terms.{Terms}

-- the first that is there
infixr 4 ◌or◌
abbrev pub ◌or◌ : {A : Type 0} → Option A → Option A → Option A
a or b = option_or a b

-- ---- aligns

-- a number that is there and isn't a multiple
abbrev pub off_multiple : Option ℕ → ℕ → Option ℕ
off_multiple None to = None
off_multiple (Some n) to = provided (not (n % to == 0)) n

-- one that is there and is below another
abbrev pub below : Option ℕ → ℕ → Option ℕ
below None least = None
below (Some n) least = provided (nat_lt n least) n

abbrev pub where_so : {A : Type 0} → Bool → Option A → Option A
where_so true a = a
where_so false a = None

abbrev pub misaligned : Frame → Terms → Option PartFault
misaligned frame t =
    option_map (λ n. fault.Misaligned n t.align) (off_multiple t.offset t.align)
    or option_map (λ n. fault.Misaligned n t.align) (where_so t.logical (below t.offset t.align))
    or option_map (λ n. fault.Misaligned n frame.sector) (where_so t.tabled (off_multiple (Some t.align) frame.sector))
    or option_map (λ n. fault.Misaligned n frame.sector) (where_so t.tabled (off_multiple t.size frame.sector))

-- ---- holes

-- the number of the first hole, of those behind `k` that end at `from`, that doesn't begin below its end, or begins below
-- the end of the one before
abbrev pub bad_hole : ℕ → ℕ → List Hole → Option ℕ
bad_hole from k [] = None
bad_hole from k (hole ∷ holes) =
    if nat_lt hole.from hole.to && nat_le from hole.from then bad_hole hole.to (k + 1) holes else Some k

abbrev pub bad_holes : List Hole → Option PartFault
bad_holes holes = option_map (λ k. fault.BadHoles k) (bad_hole 0 0 holes)

-- ---- sizes

-- what a partition that grows has at least
abbrev pub least_size : Terms → ℕ
least_size t = max 1 (max (unwrap_or t.size 0) t.len)

abbrev pub bad_autoresize : Terms → ℕ → Option PartFault
bad_autoresize t size = provided (t.autoresize && nat_lt size (least_size t)) (fault.BadAutoresize size (least_size t))

abbrev pub too_large : Terms → ℕ → Option PartFault
too_large t size = provided (nat_lt size t.len) (fault.FileTooLarge t.len size)

abbrev pub no_size : Terms → ℕ → Option PartFault
no_size t size = provided (t.tabled && size == 0) fault.NoSize

-- ---- limits

-- the greatest length of a file and the greatest end, in bytes
abbrev pub most_bytes : ℕ
most_bytes = 2 ^ 43

-- the greatest number of a sector, and of sectors
abbrev pub most_sectors : ℕ
most_sectors = 2 ^ 32 - 1

abbrev pub above : ℕ → ℕ → Option PartFault
above limit n = provided (nat_lt limit n) (fault.TooFar n limit)

abbrev pub too_far : Stood → Option PartFault
too_far s =
    above most_bytes s.terms.len
    or above most_bytes (end_of s)
    or where_so s.terms.narrow (above most_sectors (end_of s / 512 - 1) or above most_sectors (s.place.size / 512))

-- ---- what stands elsewhere

abbrev pub has_logical : List Stood → Bool
has_logical [] = false
has_logical (s ∷ ss) = s.terms.logical || has_logical ss

-- whether its record begins below a number
abbrev pub begins_below : Option ℕ → ℕ → Bool
begins_below None end = false
begins_below (Some head) end = nat_lt head end

-- the partition meets an earlier one, or it is the logical one behind that and its record begins below that one's end;
-- `between` are those listed between them
abbrev pub clashes : Stood → Stood → List Stood → Bool
clashes s earlier between =
    meets s (occupies earlier)
    || (s.terms.logical && earlier.terms.logical && not (has_logical between) && begins_below s.place.head (end_of earlier))

-- the number of the first of these earlier ones with which it clashes
abbrev pub first_clash : Stood → List Stood → Option ℕ
first_clash s [] = None
first_clash s (earlier ∷ between) = if clashes s earlier between then Some 0 else option_map suc (first_clash s between)

abbrev pub met : Frame → List Stood → Stood → Option Meeting
met frame before s =
    provided (has_table frame.table && meets s (in_run 440 72)) meeting.Mbr
    or provided (has_guid frame.table && meets s (in_run frame.sector frame.sector)) meeting.Header
    or provided (has_guid frame.table && meets s (in_run frame.entries_at entries_len)) meeting.Entries
    or provided (has_guid frame.table && s.terms.tabled && nat_lt s.place.at frame.front) meeting.Front
    or option_map (λ k. meeting.Earlier k) (first_clash s before)

abbrev pub overlap : Frame → List Stood → Stood → Option PartFault
overlap frame before s = option_map (λ m. fault.Meets m) (met frame before s)

-- ---- the first of all

-- what refuses a partition by its own numbers
abbrev pub own_fault : Frame → Stood → Option PartFault
own_fault frame s =
    misaligned frame s.terms
    or bad_holes s.holes
    or bad_autoresize s.terms s.place.size
    or too_large s.terms s.place.size
    or no_size s.terms s.place.size
    or too_far s

-- what stands, or the first fault of its own
abbrev pub unless : Option PartFault → Place → Result Place PartFault
unless None place = Ok place
unless (Some fault) place = Err fault

abbrev pub stand_said : Frame → Stood → Result Place PartFault
stand_said frame s = unless (own_fault frame s) s.place

-- a partition behind these
abbrev pub part_fault : Frame → List Stood → Stood → Option PartFault
part_fault frame before s = own_fault frame s or overlap frame before s

-- the first partition with a fault, by its number from 0, of those that stand behind `before`
abbrev pub first_fault : Frame → List Stood → List Stood → Option (ℕ × PartFault)
first_fault frame before [] = None
first_fault frame before (s ∷ rest) =
    option_map (λ f. (length before, f)) (part_fault frame before s) or first_fault frame (before ++ s ∷ []) rest
