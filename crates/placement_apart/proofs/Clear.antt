-- What holds of the partitions of an image where none has a fault.
use Rattle.std.specs.Prelude.{◌≡◌, ℕ, ◌<◌, List, [], ◌∷◌, ◌++◌, All, AllPairs, Bool, true, false, not, ◌&&◌, nat_lt, Option, None, length, option_map, slice_index_or}
use Rattle.std.specs.Option.{option_or}
use Rattle.std.proofs.Common.{arith}
use Rattle.std.proofs.lemmas.Bool.{and_from, both_ways, or_parts}
use Rattle.std.proofs.lemmas.List.Elements.{All-cons, All-head, All-nil}
use Rattle.std.proofs.lemmas.List.Kept.{AllPairs-cons}
use Rattle.base_fields.specs.Results.{provided}
use Rattle.placement_rules.specs.Claims.{in_run, meets, occupies, reach}
use Rattle.placement_rules.specs.Faults.{begins_below, clashes, first_clash, first_fault, has_logical, met, overlap, own_fault, part_fault}
use Rattle.placement_rules.specs.Frames.{entries_len, has_guid, has_table}
use Rattle.placement_rules.specs.Places.{Stood, end_of}
use Rattle.placement_rules.specs.declared.faults.Meeting.{Meeting}
use Rattle.placement_rules.specs.declared.faults.Meeting.TheVariants as meeting
use Rattle.placement_rules.specs.declared.faults.PartFault.{PartFault}
use Rattle.placement_rules.specs.declared.faults.PartFault.TheVariants as fault
use Rattle.placement_rules.specs.declared.terms.Frame.{Frame}
use Rattle.placement_apart.proofs.Steps.{all_back, all_front, counted_none, map_none, none_below, or_none, provided_none}

-- a partition without a fault of its own, which meets none of the tables in front
pub record IsClear (frame : Frame) (s : Stood) : Type 0 where
  pub own : own_fault frame s ≡ None
  pub mbr : (has_table frame.table && meets s (in_run 440 72)) ≡ false
  pub header : (has_guid frame.table && meets s (in_run frame.sector frame.sector)) ≡ false
  pub entries : (has_guid frame.table && meets s (in_run frame.entries_at entries_len)) ≡ false

-- a later partition doesn't meet this one
abbrev pub Passes : Stood → Stood → Type 0
Passes earlier s = meets s (occupies earlier) ≡ false

-- no offset below its reach that a partition occupies passes a test that it doesn't meet
pub meets_none : (s : Stood) (test : ℕ → Bool) (o : ℕ) → meets s test ≡ false → o < reach s → occupies s o ≡ true → test o ≡ true → ⊥
meets_none s test o h below occupied passes =
    both_ways (occupies s o && test o) (none_below (reach s) (λ x. occupies s x && test x) o h below)
    (and_from (occupies s o) (test o) occupied passes)

-- ---- one partition

abbrev pub clash_by_order : Stood → Stood → List Stood → Bool
clash_by_order s earlier between =
    s.terms.logical && earlier.terms.logical && not (has_logical between) && begins_below s.place.head (end_of earlier)

clash_none : (s : Stood) (before : List Stood) → first_clash s before ≡ None → All (λ e. Passes e s) before
clash_none s [] h = All-nil (λ e. Passes e s)
clash_none s (e ∷ between) h =
    let first = counted_none (clashes s e between) (first_clash s between) h in
    let parts = or_parts (meets s (occupies e)) (clash_by_order s e between) first.0 in
    All-cons (λ e. Passes e s) e between parts.0 (clash_none s between first.1)

abbrev met_mbr : Frame → Stood → Option Meeting
met_mbr frame s = provided (has_table frame.table && meets s (in_run 440 72)) meeting.Mbr

abbrev met_header : Frame → Stood → Option Meeting
met_header frame s = provided (has_guid frame.table && meets s (in_run frame.sector frame.sector)) meeting.Header

abbrev met_entries : Frame → Stood → Option Meeting
met_entries frame s = provided (has_guid frame.table && meets s (in_run frame.entries_at entries_len)) meeting.Entries

abbrev met_front : Frame → Stood → Option Meeting
met_front frame s = provided (has_guid frame.table && s.terms.tabled && nat_lt s.place.at frame.front) meeting.Front

abbrev met_earlier : List Stood → Stood → Option Meeting
met_earlier before s = option_map (λ k. meeting.Earlier k) (first_clash s before)

-- what a partition is, and what it is beside those before it
record IsPassed (frame : Frame) (before : List Stood) (s : Stood) : Type 0 where
  clear : IsClear frame s
  passes : All (λ e. Passes e s) before

passed : (frame : Frame) (before : List Stood) (s : Stood) → part_fault frame before s ≡ None → IsPassed frame before s
passed frame before s h =
    let all = or_none (own_fault frame s) (overlap frame before s) h in
    let none : met frame before s ≡ None = map_none (λ m. fault.Meets m) (met frame before s) all.1 in
    let first =
    or_none (met_mbr frame s)
    (option_or (met_header frame s)
    (option_or (met_entries frame s) (option_or (met_front frame s) (met_earlier before s)))) none in
    let second =
    or_none (met_header frame s)
    (option_or (met_entries frame s) (option_or (met_front frame s) (met_earlier before s))) first.1 in
    let third = or_none (met_entries frame s) (option_or (met_front frame s) (met_earlier before s)) second.1 in
    let fourth = or_none (met_front frame s) (met_earlier before s) third.1 in
    record {
      clear = record {
        own = all.0;
        mbr = provided_none (has_table frame.table && meets s (in_run 440 72)) meeting.Mbr first.0;
        header = provided_none
            (has_guid frame.table && meets s (in_run frame.sector frame.sector)) meeting.Header second.0;
        entries = provided_none
            (has_guid frame.table && meets s (in_run frame.entries_at entries_len)) meeting.Entries third.0;
      };
      passes = clash_none s before (map_none (λ k. meeting.Earlier k) (first_clash s before) fourth.1);
    }

-- ---- all of them

-- partitions that stand behind others
record ArePassed (frame : Frame) (before ss : List Stood) : Type 0 where
  clear : All (IsClear frame) ss
  behind : All (λ e. All (Passes e) ss) before
  among : AllPairs Passes ss

-- each of those before passes one more and the rest
more_behind : (before : List Stood) (s : Stood) (rest : List Stood) → All (λ e. Passes e s) before → All (λ e. All (Passes e) rest) before → All (λ e. All (Passes e) (s ∷ rest)) before
more_behind before s rest first others k d inside =
    All-cons (Passes (slice_index_or before k d)) s rest (first k d inside) (others k d inside)

all_passed : (frame : Frame) (before ss : List Stood) → first_fault frame before ss ≡ None → ArePassed frame before ss
all_passed frame before [] h = record {
  clear = All-nil (IsClear frame);
  behind = λ k d inside. All-nil (Passes (slice_index_or before k d));
  among = λ i j d order inside. absurd (omega arith);
}
all_passed frame before (s ∷ rest) h =
    let parts =
    or_none {A = ℕ × PartFault} (option_map (λ (f : PartFault). (length before, f)) (part_fault frame before s))
    (first_fault frame (before ++ s ∷ []) rest) h in
    let this : IsPassed frame before s =
    passed frame before s (map_none (λ (f : PartFault). (length before, f)) (part_fault frame before s) parts.0) in
    let others : ArePassed frame (before ++ s ∷ []) rest = all_passed frame (before ++ s ∷ []) rest parts.1 in
    let P : Stood → Type 0 = λ e. All (Passes e) rest in
    record {
      clear = All-cons (IsClear frame) s rest this.clear others.clear;
      behind = more_behind before s rest this.passes (all_front P before (s ∷ []) others.behind);
      among = AllPairs-cons Passes s rest (All-head P s [] (all_back P before (s ∷ []) others.behind)) others.among;
    }

pub all_clear : (frame : Frame) (ss : List Stood) → first_fault frame [] ss ≡ None → All (IsClear frame) ss
all_clear frame ss h = (all_passed frame [] ss h).clear

pub all_pass : (frame : Frame) (ss : List Stood) → first_fault frame [] ss ≡ None → AllPairs Passes ss
all_pass frame ss h = (all_passed frame [] ss h).among
