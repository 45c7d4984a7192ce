-- The four slots of a master boot record: the primary partitions, the extended one behind them, and empty ones.
use Rattle.std.specs.Prelude.{◌≡◌, ◌≢◌, ℕ, zero, suc, ◌*◌, ◌^◌, ◌<◌, ◌≤◌, ◌⊎◌, ◌==◌, Bool, true, false, not, ◌&&◌, nat_lt, List, [], ◌∷◌, ◌++◌, All, Some, None, get_or, length, position, replicate}
use Rattle.std.specs.List.{AllByRecursion, AllZip, position_or_len}
use Rattle.std.proofs.Common.{refl, ap, sym, subst, append_assoc, arith, inl, inr, lit<, length-append, ◌∙◌}
use Rattle.std.proofs.lemmas.Bool.{and_parts, and_right, eq-eqb, lt-ltb, ltb-false, ne_eqb}
use Rattle.std.proofs.lemmas.List.{get_or-take, get_or_append_left, length-take-le}
use Rattle.std.proofs.lemmas.List.Elements.{All-append, All-from_recursion, All-take, recursion_from_All}
use Rattle.std.proofs.lemmas.List.Sums.{fails_before_first, position_or_len_is}
use Rattle.std.proofs.Math.Seq.{get_or-append_seam}
use Rattle.conf_keys.specs.declared.conf.PartitionSection.{PartitionSection}
use Rattle.extended_chain.specs.Chain.{no_logical, start_of}
use Rattle.extended_chain.specs.ChainReading.{LogicalFits}
use Rattle.extended_chain.specs.Extended.{extended_entry_of, greatest_end}
use Rattle.extended_chain.specs.declared.chain.LogicalSpec.{LogicalSpec}
use Rattle.image_layout.specs.IsLayout.{IsChain, SectorsApart, extended_slot}
use Rattle.image_specs.specs.declared.specs.ImageSpec.{ImageSpec}
use Rattle.mbr_table.specs.Mbr.{HasLast, no_entry}
use Rattle.mbr_table.specs.Reading.{EntryFits, MbrFits}
use Rattle.mbr_table.specs.declared.mbr.MbrEntry.{MbrEntry}
use Rattle.placement.specs.Layouts.{extended_entries, is_primary, mbr_spec, primary_entries, slots}
use Rattle.placement.specs.Said.{in_extended, is_primary_in, logical_ends}
use Rattle.placement_rules.specs.Places.{Stood, end_of, greatest}
use Rattle.table_entries.specs.Entries.{mbr_entry_of}
use Rattle.placement_tables.proofs.Chain.{Rise, ascends, rise_fits}
use Rattle.placement_tables.proofs.Entries.{entries_all, zip_both}
use Rattle.placement_tables.proofs.Recorded.{IsFilled, IsRecorded, filled_entry, filled_last}
use Rattle.placement_tables.proofs.Refusals.{provided_none}

-- ---- empty slots

empty_fits : EntryFits no_entry
empty_fits = record { kind = lit< tt; first = lit< tt; count = lit< tt; used = λ active. absurd (cc) }

empty_last : HasLast 0 no_entry
empty_last used = absurd (cc)

four_of : (P : MbrEntry → Type 0) → P no_entry → AllByRecursion P (replicate 4 no_entry)
four_of P h = (h, (h, (h, (h, tt))))

-- what each primary entry, the extended one and an empty one has
slots_all :
    (P : MbrEntry → Type 0) (primary : List MbrEntry) (logical : List LogicalSpec) → AllByRecursion P primary
    → AllByRecursion P (extended_entries logical) → P no_entry → All P (slots primary logical)
slots_all P primary logical h g none =
    All-take P 4 (primary ++ extended_entries logical ++ replicate 4 no_entry)
    (All-append P (primary ++ extended_entries logical) (replicate 4 no_entry)
    (All-append P primary (extended_entries logical) (All-from_recursion P primary h)
    (All-from_recursion P (extended_entries logical) g))
    (All-from_recursion P (replicate 4 no_entry) (four_of P none)))

four_slots : (primary : List MbrEntry) (logical : List LogicalSpec) → length (slots primary logical) ≡ 4
four_slots primary logical =
    let both = length-append (primary ++ extended_entries logical) (replicate 4 no_entry) in
    let four : length (replicate 4 no_entry) ≡ 4 = refl in
    length-take-le 4 (primary ++ extended_entries logical ++ replicate 4 no_entry) (omega (arith, both, four))

pub slots_fit :
    (spec : ImageSpec) (primary : List MbrEntry) (logical : List LogicalSpec) → spec.keys.hd.disk_signature < 2 ^ 32
    → AllByRecursion EntryFits primary → AllByRecursion EntryFits (extended_entries logical)
    → MbrFits (mbr_spec spec (slots primary logical))
slots_fit spec primary logical signature h g =
    let four = four_slots primary logical in
    record {
      signature = signature;
      four = four;
      entries = λ k inside. slots_all EntryFits primary logical h g empty_fits k no_entry (omega (arith, four));
    }

pub slots_last :
    (primary : List MbrEntry) (logical : List LogicalSpec) → AllByRecursion (HasLast 0) primary
    → AllByRecursion (HasLast 0) (extended_entries logical) → All (HasLast 0) (slots primary logical)
slots_last primary logical h g = slots_all (HasLast 0) primary logical h g empty_last

-- ---- the extended one

-- an entry that isn't the extended one and doesn't meet it
pub record IsBeside (logical : List LogicalSpec) (e : MbrEntry) : Type 0 where
  pub apart : SectorsApart e (extended_entry_of logical)
  pub other : e.first ≢ start_of logical

beside_apart :
    (logical : List LogicalSpec) (es : List MbrEntry) → AllByRecursion (IsBeside logical) es
    → AllByRecursion (λ e. SectorsApart e (extended_entry_of logical)) es
beside_apart logical [] h = tt
beside_apart logical (e ∷ es) h = (h.0.apart, beside_apart logical es h.1)

-- one of the four, where the extended one stands between the others
at_slot :
    (primary : List MbrEntry) (s : LogicalSpec) (specs : List LogicalSpec) (k : ℕ) → k < 4
    → get_or (slots primary (s ∷ specs)) k no_entry
    ≡ get_or (primary ++ extended_entry_of (s ∷ specs) ∷ replicate 4 no_entry) k no_entry
at_slot primary s specs k inside =
    get_or-take 4 (primary ++ extended_entries (s ∷ specs) ++ replicate 4 no_entry) k no_entry inside
    ∙ ap (λ (es : List MbrEntry). get_or es k no_entry)
    (append_assoc primary (extended_entries (s ∷ specs)) (replicate 4 no_entry))

at_seam :
    (primary : List MbrEntry) (s : LogicalSpec) (specs : List LogicalSpec) → length primary < 4
    → get_or (slots primary (s ∷ specs)) (length primary) no_entry ≡ extended_entry_of (s ∷ specs)
at_seam primary s specs few =
    at_slot primary s specs (length primary) few
    ∙ get_or-append_seam primary (extended_entry_of (s ∷ specs)) (replicate 4 no_entry) no_entry

abbrev is_extended : List LogicalSpec → MbrEntry → Bool
is_extended logical e = (e.kind == 0x0F) && (e.first == start_of logical)

slot_is :
    (spec : ImageSpec) (primary : List MbrEntry) (s : LogicalSpec) (specs : List LogicalSpec) → length primary ≤ 3
    → AllByRecursion (IsBeside (s ∷ specs)) primary
    → extended_slot (mbr_spec spec (slots primary (s ∷ specs))) (s ∷ specs) ≡ length primary
slot_is spec primary s specs few beside =
    let all = All-from_recursion (IsBeside (s ∷ specs)) primary beside in
    let four = four_slots primary (s ∷ specs) in
    position_or_len_is (is_extended (s ∷ specs)) (slots primary (s ∷ specs)) (length primary) no_entry
    (omega (arith, four))
    (λ k before.
    let small : k < 4 = omega arith in
    let here : get_or (slots primary (s ∷ specs)) k no_entry ≡ get_or primary k no_entry =
    at_slot primary s specs k small
    ∙ get_or_append_left primary (extended_entry_of (s ∷ specs) ∷ replicate 4 no_entry) no_entry k before in
    let e = get_or primary k no_entry in
    ap (λ (e : MbrEntry). is_extended (s ∷ specs) e) here
    ∙ and_right (e.kind == 0x0F) (e.first == start_of (s ∷ specs))
    (ne_eqb e.first (start_of (s ∷ specs)) (all k no_entry before).other))
    (λ inside.
    ap (λ (e : MbrEntry). is_extended (s ∷ specs) e) (at_seam primary s specs (omega arith))
    ∙ eq-eqb s.head s.head refl)

-- each element but the one between two lists
beside_seam :
    (P : MbrEntry → Type 0) (xs : List MbrEntry) (y : MbrEntry) (ys : List MbrEntry) (d : MbrEntry) (k : ℕ)
    → AllByRecursion P xs → AllByRecursion P ys → P d → k ≢ length xs → P (get_or (xs ++ y ∷ ys) k d)
beside_seam P [] y [] d zero h g none other = absurd (other refl)
beside_seam P [] y [] d (suc k) h g none other = none
beside_seam P [] y (z ∷ ys) d zero h g none other = absurd (other refl)
beside_seam P [] y (z ∷ ys) d (suc zero) h g none other = g.0
beside_seam P [] y (z ∷ ys) d (suc (suc k)) h g none other = behind P ys d k g.1 none
  where
    behind :
        (P : MbrEntry → Type 0) (ys : List MbrEntry) (d : MbrEntry) (k : ℕ) → AllByRecursion P ys → P d
        → P (get_or ys k d)
    behind P [] d k g none = none
    behind P (y ∷ ys) d zero g none = g.0
    behind P (y ∷ ys) d (suc k) g none = behind P ys d k g.1 none
beside_seam P (x ∷ xs) y ys d zero h g none other = h.0
beside_seam P (x ∷ xs) y ys d (suc k) h g none other =
    beside_seam P xs y ys d k h.1 g none (λ same. other (ap suc same))

pub is_chain :
    (spec : ImageSpec) (primary : List MbrEntry) (from : ℕ) (s : LogicalSpec) (specs : List LogicalSpec)
    → length primary ≤ 3 → AllByRecursion (IsBeside (s ∷ specs)) primary → length (s ∷ specs) ≤ 256 → 1 ≤ from
    → Rise from (s ∷ specs) → IsChain (mbr_spec spec (slots primary (s ∷ specs))) (s ∷ specs)
    (extended_slot (mbr_spec spec (slots primary (s ∷ specs))) (s ∷ specs))
is_chain spec primary from s specs few beside count some rise =
    let table = mbr_spec spec (slots primary (s ∷ specs)) in
    let extended = extended_entry_of (s ∷ specs) in
    let chain : IsChain table (s ∷ specs) (length primary) = record {
      slot = omega arith;
      entry = at_seam primary s specs (omega arith);
      few = count;
      fits = λ j inside.
          All-from_recursion LogicalFits (s ∷ specs) (rise_fits from (s ∷ specs) rise) j no_logical inside;
      ascends = ascends from (s ∷ specs) some rise;
      primaries = λ j inside other.
          let empty : SectorsApart no_entry extended = inl (omega arith) in
          rw (at_slot primary s specs j inside)
          (beside_seam (λ e. SectorsApart e extended) primary extended (replicate 4 no_entry) no_entry j
          (beside_apart (s ∷ specs) primary beside)
          (four_of (λ e. SectorsApart e extended) empty) empty other);
    } in
    subst (λ (k : ℕ). IsChain table (s ∷ specs) k) (sym (slot_is spec primary s specs few beside)) chain

-- ---- the primary ones

primary_filled : (tabled logical : Bool) → (tabled && not logical) ≡ true → tabled ≡ true
primary_filled tabled logical h = (and_parts tabled (not logical) h).0

pub primaries_fit :
    (parts : List PartitionSection) (ss : List Stood) → AllZip IsRecorded parts ss
    → AllByRecursion EntryFits (primary_entries parts ss)
primaries_fit parts ss h =
    entries_all EntryFits IsRecorded is_primary (λ part s. mbr_entry_of part s.place.at s.place.size) parts ss h
    (λ part s is primary.
    filled_entry part s is.within (is.filled (primary_filled s.terms.tabled s.terms.logical primary)))

pub primaries_last :
    (parts : List PartitionSection) (ss : List Stood) → AllZip IsRecorded parts ss
    → AllByRecursion (HasLast 0) (primary_entries parts ss)
primaries_last parts ss h =
    entries_all (HasLast 0) IsRecorded is_primary (λ part s. mbr_entry_of part s.place.at s.place.size) parts ss h
    (λ part s is primary. filled_last part s (is.filled (primary_filled s.terms.tabled s.terms.logical primary)))

none_passes :
    (test : Stood → Bool) (ss : List Stood) → position test ss ≡ None → AllByRecursion (λ s. test s ≡ false) ss
none_passes test ss h =
    let none : length ss ≤ position_or_len test ss =
    ltb-false (position_or_len test ss) (length ss) (provided_none _ _ h) in
    recursion_from_All (λ s. test s ≡ false) ss (λ k d inside. fails_before_first test ss k d (omega (arith, none)))

apart_by :
    (p a b c d : Bool) → (p && a && b && c && d) ≡ false → p ≡ true → c ≡ true → d ≡ true → (a ≡ false) ⊎ (b ≡ false)
apart_by false a b c d h p-is c-is d-is = absurd (cc)
apart_by true false b c d h p-is c-is d-is = inl refl
apart_by true true false c d h p-is c-is d-is = inr refl
apart_by true true true false d h p-is c-is d-is = absurd (cc)
apart_by true true true true d h p-is c-is d-is = absurd (cc)

beside :
    (logical : List LogicalSpec) (part : PartitionSection) (s : Stood) → IsFilled s → is_primary s ≡ true
    → start_of logical < greatest_end logical
    → is_primary_in (512 * start_of logical) (512 * greatest_end logical) s ≡ false
    → IsBeside logical (mbr_entry_of part s.place.at s.place.size)
beside logical part s filled primary some free =
    let from = 512 * start_of logical in
    let to = 512 * greatest_end logical in
    let at = filled.at in
    let size = filled.size in
    let long = filled.some in
    elim (apart_by (is_primary s) (nat_lt s.place.at to) (nat_lt from (end_of s)) (nat_lt s.place.at (end_of s))
    (nat_lt from to) free primary
    (lt-ltb s.place.at (end_of s) (omega arith)) (lt-ltb from to (omega arith))) [
      | inl behind ↦
          let past : to ≤ s.place.at = ltb-false s.place.at to behind in
          record { apart = inr (omega arith); other = omega arith }
      | inr before ↦
          let past : end_of s ≤ from = ltb-false from (end_of s) before in
          record { apart = inl (omega arith); other = omega arith }
    ]

pub primaries_beside :
    (parts : List PartitionSection) (ss : List Stood) (logical : List LogicalSpec) → AllZip IsRecorded parts ss
    → start_of logical < greatest_end logical → in_extended ss (Some (512 * start_of logical)) ≡ None
    → 512 * greatest_end logical ≡ greatest (logical_ends ss)
    → AllByRecursion (IsBeside logical) (primary_entries parts ss)
primaries_beside parts ss logical h some free end =
    let test = λ (s : Stood). is_primary_in (512 * start_of logical) (512 * greatest_end logical) s in
    let all : AllByRecursion (λ (s : Stood). test s ≡ false) ss =
    none_passes test ss (subst
    (λ (to : ℕ).
    position (λ (s : Stood). is_primary_in (512 * start_of logical) to s) ss ≡ None) (sym end) free) in
    entries_all (IsBeside logical) (λ part s. IsRecorded part s × (test s ≡ false)) is_primary
    (λ part s. mbr_entry_of part s.place.at s.place.size)
    parts ss (zip_both IsRecorded (λ s. test s ≡ false) parts ss h all)
    (λ part s is primary.
    beside logical part s (is.0.filled (primary_filled s.terms.tabled s.terms.logical primary)) primary some is.1)
