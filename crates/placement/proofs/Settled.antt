-- Partitions that nothing refuses: their numbers fit the fields of the tables.
use Rattle.std.proofs.Common.{◌≡◌, ℕ, ◌+◌, ◌-◌, ◌*◌, ◌/◌, ◌%◌, ◌^◌, ◌<◌, ◌≤◌, max, List, [], ◌∷◌, ◌++◌, length, get_or, Bool, true, false, ◌&&◌, inl, inr, refl, sym, ap, ◌∙◌, arith, Option, Some, None, map}
use Rattle.std.proofs.Math.Nat.{mod-eq_of_lt}
use Rattle.std.proofs.lemmas.Bool.{and_from, and_parts, cases_lt, ltb-false, or_cases, or_left, true≢false}
use Rattle.std.proofs.lemmas.List.{length-map}
use Rattle.std.proofs.lemmas.List.Elements.{All-from_recursion, recursion_from_All}
use Rattle.std.proofs.lemmas.Slice.Zip.{AllZip-long}
use Rattle.std.specs.Prelude.{IfSome, if◌then◌else◌, is_some, not, nat_le, nat_lt, option_map, unwrap_or}
use Rattle.std.specs.List.{AllByRecursion, filter}
use Rattle.base_fields.specs.Results.{provided}
use Rattle.base_fields.specs.declared.spans.TableKind.{TableKind}
use Rattle.base_fields.specs.declared.spans.TableKind.TheVariants as table
use Rattle.conf_keys.specs.Within.{IsSectorSize}
use Rattle.conf_keys.specs.declared.conf.HdKeys.{HdKeys}
use Rattle.conf_keys.specs.declared.conf.Kind.{Kind}
use Rattle.conf_keys.specs.declared.conf.Kind.TheVariants as kind
use Rattle.conf_keys.specs.declared.conf.PartitionSection.{PartitionSection}
use Rattle.conf_values.specs.declared.values.Hole.{Hole}
use Rattle.image_specs.specs.declared.specs.ImageSpec.{ImageSpec}
use Rattle.placement.specs.Fitting.{AreSettled, AreStood, FitsRecord, IsChained, IsOff, IsSector, IsTermed}
use Rattle.image_specs.specs.IsSpec.{AreSources, IsSpec}
use Rattle.placement.specs.Layouts.{entries_for, image_size, logical_specs, needs_of, wholes_as}
use Rattle.placement.specs.Said.{above_most, extended_overlap, image_last, too_small}
use Rattle.placement_claims.proofs.Meeting.{met_from}
use Rattle.placement_claims.proofs.OffsetSets.{run_in}
use Rattle.placement_claims.specs.Held.{IsHeld}
use Rattle.placement_rules.proofs.NoFault.{neither}
use Rattle.placement_rules.proofs.Multiples.{least_near}
use Rattle.placement_rules.proofs.Stoods.{stood_length}
use Rattle.placement_rules.specs.Bounds.{IsFrame, IsNarrowPlace, IsTabledPlace, is_placed}
use Rattle.placement_rules.specs.Claims.{claims, in_record, in_run, meets}
use Rattle.placement_rules.specs.Faults.{◌or◌, first_fault, met, overlap, own_fault, part_fault}
use Rattle.placement_rules.specs.Frames.{frame_of, front_as, has_guid, has_table, is_hybrid, is_mbr, sector_as, table_as}
use Rattle.placement_rules.specs.Places.{Stood, end_of, greatest, least_multiple, stood_from, stood_of}
use Rattle.placement_rules.specs.Terms.{holes_of, in_table, in_tables, is_logical, is_narrow, is_typed, names_as, names_of, primaries, terms, terms_as, terms_from}
use Rattle.placement_rules.specs.declared.faults.PartFault.{PartFault}
use Rattle.placement_rules.specs.declared.faults.Meeting.TheVariants as meeting
use Rattle.placement_rules.specs.declared.terms.Frame.{Frame}
use Rattle.placement_rules.specs.declared.terms.Terms.{Terms}
use Rattle.placement_walk.specs.Walked.{AreWalked, Stands}
use Rattle.span_cover.proofs.Spans.{or_right}
use Rattle.table_entries.specs.Entries.{logical_spec_of}

-- ---- which partitions have sectors of 32 bits

logical_narrow : (kind : TableKind) (hd : HdKeys) (parts before : List PartitionSection) (part : PartitionSection) → is_logical kind hd parts before part ≡ true → is_narrow kind before part ≡ true
logical_narrow kind hd parts before part h =
    let both : ((is_mbr kind && in_table kind part) ≡ true) × (nat_le (primaries hd.extended_partition (length (in_tables kind parts))) (length (in_tables kind before)) ≡ true) = and_parts (is_mbr kind && in_table kind part) (nat_le (primaries hd.extended_partition (length (in_tables kind parts))) (length (in_tables kind before))) h in
    or_left (is_mbr kind && in_table kind part) (is_hybrid kind && is_typed kind part && nat_lt (length (filter (is_typed kind) before)) 3) both.0

narrow_tabled : (kind : TableKind) (before : List PartitionSection) (part : PartitionSection) → is_narrow kind before part ≡ true → in_table kind part ≡ true
narrow_tabled kind before part h =
    elim (or_cases (is_mbr kind && in_table kind part) (is_hybrid kind && is_typed kind part && nat_lt (length (filter (is_typed kind) before)) 3) h) [
      | inl own ↦ (and_parts (is_mbr kind) (in_table kind part) own).1
      | inr typed ↦
          let both : ((is_hybrid kind && is_typed kind part) ≡ true) × (nat_lt (length (filter (is_typed kind) before)) 3 ≡ true) = and_parts (is_hybrid kind && is_typed kind part) (nat_lt (length (filter (is_typed kind) before)) 3) typed in
          (and_parts (in_table kind part) (is_some part.partition_type) (and_parts (is_hybrid kind) (is_typed kind part) both.0).1).0
    ]

mbr_narrow : (kind : TableKind) (before : List PartitionSection) (part : PartitionSection) → is_mbr kind ≡ true → in_table kind part ≡ true → is_narrow kind before part ≡ true
mbr_narrow kind before part mbr tabled =
    or_left (is_mbr kind && in_table kind part) (is_hybrid kind && is_typed kind part && nat_lt (length (filter (is_typed kind) before)) 3)
    (and_from (is_mbr kind) (in_table kind part) mbr tabled)

termed_from : (spec : ImageSpec) (kind : TableKind) (before rest : List PartitionSection) (lens : List ℕ) → AllByRecursion (IsTermed kind) (terms_from spec kind before rest lens)
termed_from spec kind before [] lens = tt
termed_from spec kind before (part ∷ rest) [] = tt
termed_from spec kind before (part ∷ rest) (len ∷ lens) = (
  record {
    tabled = narrow_tabled kind before part;
    narrow = logical_narrow kind spec.keys.hd spec.keys.parts before part;
    mbr = mbr_narrow kind before part;
  },
  termed_from spec kind (before ++ part ∷ []) rest lens,
)

pub termed_as : (k : Kind) (spec : ImageSpec) (lens : List ℕ) → AllByRecursion (IsTermed (table_as k spec.keys.hd)) (terms_as k spec lens)
termed_as kind.Hd spec lens = termed_from spec spec.keys.hd.partition_table_type [] spec.keys.parts lens
termed_as kind.Plain spec lens = (record { tabled = λ h. h; narrow = λ h. h; mbr = λ m h. h }, tt)
termed_as kind.Flash spec lens = tt
termed_as kind.Sparse spec lens = tt
termed_as kind.Ready spec lens = tt

pub stood_terms : (P : Terms → Type 0) (frame : Frame) (before : List Stood) (ts : List Terms) (hs : List (List Hole)) → AllByRecursion P ts → AllByRecursion (λ s. P s.terms) (stood_from frame before ts hs)
stood_terms P frame before [] hs h = tt
stood_terms P frame before (t ∷ ts) [] h = tt
stood_terms P frame before (t ∷ ts) (holes ∷ hs) h = (h.0, stood_terms P frame (before ++ stood_of frame before t holes ∷ []) ts hs h.1)

-- ---- its numbers of sectors

whole_sector : (size sector : ℕ) → size % sector ≡ 0 → 0 < size → 512 ≤ sector → 512 ≤ size
whole_sector size sector whole some least =
    elim (cases_lt size sector) [
      | inl less ↦ absurd (let same : size % sector ≡ size = mod-eq_of_lt less in omega arith)
      | inr fine ↦ omega arith
    ]

head_of : (head : Option ℕ) (align at : ℕ) → IfSome head (λ h. h + align ≡ at) → unwrap_or head 0 ≤ at
head_of None align at h = omega arith
head_of (Some x) align at h = omega (arith, h)

pub fits_record : (frame : Frame) (s : Stood) → 512 ≤ frame.sector → IsTermed frame.table s.terms → Stands frame s → s.terms.narrow ≡ true → FitsRecord s
fits_record frame s least termed stands narrow =
    let own : IsNarrowPlace s.place = stands.narrow narrow in
    let tabled : IsTabledPlace frame.sector s.place = stands.tabled (termed.tabled narrow) in
    let size : 512 ≤ s.place.size = whole_sector s.place.size frame.sector tabled.size tabled.some least in
    let last : (s.place.at + s.place.size) / 512 - 1 ≤ 2 ^ 32 - 1 = own.last in
    let count : s.place.size / 512 ≤ 2 ^ 32 - 1 = own.count in
    let head : unwrap_or s.place.head 0 ≤ s.place.at = head_of s.place.head s.terms.align s.place.at stands.head in
    let first : s.place.at / 512 < 2 ^ 32 = omega arith in
    record {
      head = omega arith;
      first = first;
      count = omega arith;
    }

-- ---- a boot record stands behind the master boot record

unmapped : {X Y : Type 0} (f : X → Y) (o : Option X) → option_map f o ≡ None → o ≡ None
unmapped f None h = refl
unmapped f (Some x) h = absurd (cc)

not_provided : {X : Type 0} (b : Bool) (x : X) → provided b x ≡ None → b ≡ false
not_provided false x h = refl
not_provided true x h = absurd (cc)

right_false : (a b : Bool) → (a && b) ≡ false → a ≡ true → b ≡ false
right_false true b h is = h
right_false false b h is = cc

off_here : (frame : Frame) (before : List Stood) (s : Stood) → part_fault frame before s ≡ None → IsOff frame s
off_here frame before s none tabled =
    let over : overlap frame before s ≡ None = (neither (own_fault frame s) (overlap frame before s) none).1 in
    let met_none : met frame before s ≡ None = unmapped _ (met frame before s) over in
    let first : provided (has_table frame.table && meets s (in_run 440 72)) meeting.Mbr ≡ None = (neither (provided (has_table frame.table && meets s (in_run 440 72)) meeting.Mbr) _ met_none).0 in
    right_false (has_table frame.table) (meets s (in_run 440 72)) (not_provided (has_table frame.table && meets s (in_run 440 72)) meeting.Mbr first) tabled

pub off_from : (frame : Frame) (before ss : List Stood) → first_fault frame before ss ≡ None → AllByRecursion (IsOff frame) ss
off_from frame before [] h = tt
off_from frame before (s ∷ ss) h =
    let both : (option_map (λ (f : PartFault). (length before, f)) (part_fault frame before s) ≡ None) × (first_fault frame (before ++ s ∷ []) ss ≡ None) = neither (option_map (λ (f : PartFault). (length before, f)) (part_fault frame before s)) (first_fault frame (before ++ s ∷ []) ss) h in
    (off_here frame before s (unmapped (λ (f : PartFault). (length before, f)) (part_fault frame before s) both.0), off_from frame (before ++ s ∷ []) ss both.1)

stands_held : (head : Option ℕ) (align at : ℕ) → IfSome head (λ h. h + align ≡ at) → IfSome head (λ h. h ≤ at)
stands_held None align at h = tt
stands_held (Some x) align at h = omega (arith, h)

pub is_held : (frame : Frame) (s : Stood) → Stands frame s → IsHeld s
is_held frame s stands = record { end = stands.end; head = stands_held s.place.head s.terms.align s.place.at stands.head }

head_far : (s : Stood) (head : ℕ) → IsHeld s → meets s (in_run 440 72) ≡ false → s.place.head ≡ Some head → 512 ≤ head
head_far s head held off is =
    elim (cases_lt head 512) [
      | inl near ↦
          let o : ℕ = max head 440 in
          let recorded : in_record s.place.head o ≡ true = ap (λ (h : Option ℕ). in_record h o) is ∙ run_in head 512 o (omega arith) (omega arith) in
          absurd (true≢false (sym (met_from s (in_run 440 72) held (o, or_right (claims s o) (in_record s.place.head o) recorded, run_in 440 72 o (omega arith) (omega arith))) ∙ off))
      | inr far ↦ far
    ]

pub is_chained : (frame : Frame) (s : Stood) (part : PartitionSection) → 512 ≤ frame.sector → has_table frame.table ≡ true → IsTermed frame.table s.terms → Stands frame s → IsOff frame s → s.terms.logical ≡ true → IsChained (logical_spec_of part (unwrap_or s.place.head 0) s.place.at s.place.size)
is_chained frame s part least tabled termed stands off logical =
    let narrow : s.terms.narrow ≡ true = termed.narrow logical in
    let own : IsNarrowPlace s.place = stands.narrow narrow in
    let place : IsTabledPlace frame.sector s.place = stands.tabled (termed.tabled narrow) in
    let size : 512 ≤ s.place.size = whole_sector s.place.size frame.sector place.size place.some least in
    let last : (s.place.at + s.place.size) / 512 - 1 ≤ 2 ^ 32 - 1 = own.last in
    let is : s.place.head ≡ Some (s.place.at - s.terms.align) = stands.logical logical in
    let far : 512 ≤ s.place.at - s.terms.align = head_far s (s.place.at - s.terms.align) (is_held frame s stands) (off tabled) is in
    let head : unwrap_or s.place.head 0 ≡ s.place.at - s.terms.align = ap (λ (h : Option ℕ). unwrap_or h 0) is in
    record {
      head = omega arith;
      first = omega arith;
      end = omega arith;
    }

-- ---- entries of all

entry_step : {A : Type 0} (P : A → Type 0) (b : Bool) (e : A) (es : List A) → (b ≡ true → P e) → AllByRecursion P es → AllByRecursion P (if b then e ∷ es else es)
entry_step P true e es own rest = (own refl, rest)
entry_step P false e es own rest = rest

pub all_entries : {A : Type 0} (P : A → Type 0) (test : Stood → Bool) (entry : PartitionSection → Stood → A) (parts : List PartitionSection) (ss : List Stood) → AllByRecursion (λ s. test s ≡ true → (part : PartitionSection) → P (entry part s)) ss → AllByRecursion P (entries_for test entry parts ss)
all_entries P test entry [] ss h = tt
all_entries P test entry (part ∷ parts) [] h = tt
all_entries P test entry (part ∷ parts) (s ∷ ss) h =
    entry_step P (test s) (entry part s) (entries_for test entry parts ss) (λ on. h.0 on part) (all_entries P test entry parts ss h.1)

-- ---- tables

pub sector_is : (t : TableKind) (n : ℕ) → IsSectorSize t n → IsSector n
sector_is table.Bare n h = h
sector_is table.Mbr n h = inl h
sector_is table.Gpt n h = h
sector_is table.Hybrid n h = inl h

pub hybrid_sector : (t : TableKind) (n : ℕ) → IsSectorSize t n → is_hybrid t ≡ true → n ≡ 512
hybrid_sector table.Bare n h is = absurd (true≢false (sym is))
hybrid_sector table.Mbr n h is = h
hybrid_sector table.Gpt n h is = absurd (true≢false (sym is))
hybrid_sector table.Hybrid n h is = h

front_far : (t : TableKind) (hd : HdKeys) → has_guid t ≡ true → 2 * hd.sector_size ≤ front_as t hd
front_far table.Bare hd is = absurd (true≢false (sym is))
front_far table.Mbr hd is = absurd (true≢false (sym is))
front_far table.Gpt hd is = omega arith
front_far table.Hybrid hd is = omega arith

pub guid_front : (k : Kind) (hd : HdKeys) → has_guid (table_as k hd) ≡ true → 2 * sector_as k hd ≤ front_as (table_as k hd) hd
guid_front kind.Hd hd is = front_far hd.partition_table_type hd is
guid_front kind.Plain hd is = absurd (true≢false (sym is))
guid_front kind.Flash hd is = absurd (true≢false (sym is))
guid_front kind.Sparse hd is = absurd (true≢false (sym is))
guid_front kind.Ready hd is = absurd (true≢false (sym is))

pub table_names : (k : Kind) (spec : ImageSpec) → has_table (table_as k spec.keys.hd) ≡ true → length (names_as k spec) ≡ length spec.keys.parts
table_names kind.Hd spec is = simp length-map
table_names kind.Plain spec is = absurd (true≢false (sym is))
table_names kind.Flash spec is = absurd (true≢false (sym is))
table_names kind.Sparse spec is = absurd (true≢false (sym is))
table_names kind.Ready spec is = absurd (true≢false (sym is))

pub mbr_tabled : (t : TableKind) → is_mbr t ≡ true → has_table t ≡ true
mbr_tabled table.Mbr is = refl
mbr_tabled table.Bare is = absurd (true≢false (sym is))
mbr_tabled table.Gpt is = absurd (true≢false (sym is))
mbr_tabled table.Hybrid is = absurd (true≢false (sym is))

-- ---- the whole

front_in : (size : Option ℕ) (needs front : ℕ) → front ≤ needs → too_small size needs ≡ None → front ≤ unwrap_or size needs
front_in None needs front le h = le
front_in (Some has) needs front le h = let fits : needs ≤ has = ltb-false has needs (not_provided (nat_lt has needs) _ h) in omega arith

unit_some : (b : Bool) (n : ℕ) → 512 ≤ n → 1 ≤ (if b then n else 1)
unit_some true n h = omega arith
unit_some false n h = omega arith

front_needed : (frame : Frame) (ss : List Stood) → 512 ≤ frame.sector → frame.front ≤ needs_of frame ss
front_needed frame ss least =
    let unit : ℕ = if has_table frame.table then frame.sector else 1 in
    let end : ℕ = greatest (frame.front ∷ map end_of ss) in
    let near : (end ≤ least_multiple unit end) × (least_multiple unit end < end + unit) = least_near end unit (unit_some (has_table frame.table) frame.sector least) in
    let above : frame.front ≤ end = omega arith in
    omega arith

image_fits : (spec : ImageSpec) (frame : Frame) (ss : List Stood) → 512 ≤ frame.sector → image_last spec frame ss ≡ None → frame.front ≤ image_size frame ss
image_fits spec frame ss least last =
    let needs : ℕ = needs_of frame ss in
    let one : (above_most spec needs or above_most spec (unwrap_or frame.size 0) or too_small frame.size needs) ≡ None = (neither (extended_overlap spec ss) _ last).1 in
    let two : (above_most spec (unwrap_or frame.size 0) or too_small frame.size needs) ≡ None = (neither (above_most spec needs) _ one).1 in
    let three : too_small frame.size needs ≡ None = (neither (above_most spec (unwrap_or frame.size 0)) (too_small frame.size needs) two).1 in
    front_in frame.size needs frame.front (front_needed frame ss least) three

pub settled : (spec : ImageSpec) (frame : Frame) (ss : List Stood) → AreStood spec frame ss → image_last spec frame ss ≡ None → AreSettled spec frame ss
settled spec frame ss h last =
    let least : 512 ≤ frame.sector = h.framed.least in
    let table : frame.table ≡ table_as spec.kind spec.keys.hd = ap (λ (f : Frame). f.table) h.is in
    record {
      within = h.within;
      sector = sector_is frame.table frame.sector h.framed.sector;
      old = λ hybrid. hybrid_sector frame.table frame.sector h.framed.sector hybrid;
      count = λ tabled. h.names ∙ table_names spec.kind spec (ap has_table (sym table) ∙ tabled);
      primary = λ mbr k d below on. fits_record frame (get_or ss k d) least (h.termed k d below) (h.stand k d below)
          ((h.termed k d below).mbr mbr (and_parts (get_or ss k d).terms.tabled (not (get_or ss k d).terms.logical) on).0);
      logical = λ k d below on. fits_record frame (get_or ss k d) least (h.termed k d below) (h.stand k d below) ((h.termed k d below).narrow on);
      narrow = λ k d below on. fits_record frame (get_or ss k d) least (h.termed k d below) (h.stand k d below) on;
      ends = λ k d below. (h.stand k d below).end;
      chain = λ mbr. All-from_recursion IsChained (logical_specs spec.keys.parts ss)
          (all_entries IsChained (λ s. s.terms.logical) (λ part s. logical_spec_of part (unwrap_or s.place.head 0) s.place.at s.place.size) spec.keys.parts ss
          (recursion_from_All _ ss (λ k d below on part.
          is_chained frame (get_or ss k d) part least (mbr_tabled frame.table mbr) (h.termed k d below) (h.stand k d below) (h.off k d below) on)));
      front = λ guid. rw h.is (guid_front spec.kind spec.keys.hd (ap has_guid (sym table) ∙ guid));
      size = image_fits spec frame ss least last;
    }

-- ---- counts

count_names : (k : Kind) (spec : ImageSpec) → is_placed k ≡ true → AreSources k spec.keys.parts spec.sources → length (names_as k spec) ≡ length spec.sources
count_names kind.Hd spec is h = simp length-map (sym (AllZip-long _ spec.keys.parts spec.sources h))
count_names kind.Plain spec is h = sym h.one
count_names kind.Flash spec is h = absurd (true≢false (sym is))
count_names kind.Sparse spec is h = absurd (true≢false (sym is))
count_names kind.Ready spec is h = absurd (true≢false (sym is))

count_wholes : (k : Kind) (spec : ImageSpec) → is_placed k ≡ true → length (names_as k spec) ≡ length (wholes_as k spec.keys.parts)
count_wholes kind.Hd spec is = simp length-map
count_wholes kind.Plain spec is = refl
count_wholes kind.Flash spec is = absurd (true≢false (sym is))
count_wholes kind.Sparse spec is = absurd (true≢false (sym is))
count_wholes kind.Ready spec is = absurd (true≢false (sym is))

pub stood_so : (spec : ImageSpec) (lens : List ℕ) (frame : Frame) (ss : List Stood) → IsSpec spec → is_placed spec.kind ≡ true → frame ≡ frame_of spec → IsFrame frame → length (terms spec lens) ≡ length (names_of spec) → length (terms spec lens) ≡ length (holes_of spec) → AreWalked frame (stood_from frame [] (terms spec lens) (holes_of spec)) ss → AreStood spec frame ss
stood_so spec lens frame ss whole placed is framed names holes walked =
    let all : List Stood = stood_from frame [] (terms spec lens) (holes_of spec) in
    let count : length ss ≡ length (names_of spec) = ap length walked.same ∙ stood_length frame [] (terms spec lens) (holes_of spec) (sym holes) ∙ names in
    let table : frame.table ≡ table_as spec.kind spec.keys.hd = ap (λ (f : Frame). f.table) is in
    let termed : AllByRecursion (IsTermed frame.table) (terms spec lens) = rw table (termed_as spec.kind spec lens) in
    record {
      is = is;
      within = whole.within.parts;
      framed = framed;
      names = count;
      sources = count ∙ count_names spec.kind spec placed whole.sources;
      wholes = count ∙ count_wholes spec.kind spec placed;
      termed = rw walked.same (All-from_recursion (λ s. IsTermed frame.table s.terms) all (stood_terms (IsTermed frame.table) frame [] (terms spec lens) (holes_of spec) termed));
      off = rw walked.same (All-from_recursion (IsOff frame) all (off_from frame [] all walked.fine));
      stand = walked.stand;
    }
