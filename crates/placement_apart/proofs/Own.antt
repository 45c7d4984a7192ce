-- What holds of a partition without a fault of its own that stands where the rules put it: its file, its holes and
-- its record.
use Rattle.std.specs.Prelude.{◌≡◌, ℕ, suc, zero, ◌+◌, ◌-◌, ◌*◌, ◌/◌, ◌%◌, ◌^◌, ◌<◌, ◌≤◌, List, [], ◌∷◌, All, AllPairs, Bool, true, false, not, ◌&&◌, ◌==◌, nat_le, nat_lt, Option, None, Some, length, map, option_map, unwrap_or, if◌then◌else◌}
use Rattle.std.specs.Option.{option_or}
use Rattle.std.proofs.Common.{refl, ◌∙◌, sym, ap, arith}
use Rattle.std.proofs.lemmas.Bool.{and_parts, eqb-true, leb-true, ltb-false, ltb-true, not-false}
use Rattle.std.proofs.lemmas.List.{length-map}
use Rattle.std.proofs.lemmas.List.Elements.{All-cons, All-map, All-nil, All-weaker}
use Rattle.std.proofs.lemmas.List.Kept.{AllPairs-cons}
use Rattle.std.proofs.lemmas.Nat.{div-add-mod'}
use Rattle.base_fields.specs.declared.spans.Span.{Span}
use Rattle.base_fields.specs.declared.spans.TableKind.{TableKind}
use Rattle.conf_keys.specs.Within.{IsHoleWithin}
use Rattle.conf_values.specs.declared.values.Hole.{Hole}
use Rattle.image_layout.specs.IsLayout.{AreHoles}
use Rattle.placement.specs.Layouts.{hole_span}
use Rattle.placement_rules.specs.Claims.{in_run, meets}
use Rattle.placement_rules.specs.Faults.{bad_autoresize, bad_hole, bad_holes, below, misaligned, no_size, off_multiple, too_far, too_large, where_so}
use Rattle.placement_rules.specs.Frames.{entries_len, has_guid, has_table, is_mbr}
use Rattle.placement_rules.specs.Places.{Stood, at_from, least_multiple, standing}
use Rattle.placement_rules.specs.declared.faults.PartFault.{PartFault}
use Rattle.placement_rules.specs.declared.faults.PartFault.TheVariants as fault
use Rattle.placement_rules.specs.declared.terms.Frame.{Frame}
use Rattle.placement_rules.specs.declared.terms.Place.{Place}
use Rattle.placement_rules.specs.declared.terms.Terms.{Terms}
use Rattle.placement_apart.proofs.Clear.{IsClear}
use Rattle.placement_apart.proofs.Steps.{map_none, or_none, provided_none}
use Rattle.placement_apart.proofs.Terms.{AreFewHoles, IsStanding}

-- ---- multiples

pub where_none : {A : Type 0} (c : Bool) (o : Option A) → c ≡ true → where_so c o ≡ None → o ≡ None
where_none true o is h = h
where_none false o is h = absurd (cc)

pub off_none : (n to : ℕ) → off_multiple (Some n) to ≡ None → n % to ≡ 0
off_none n to h = eqb-true (n % to) 0 (not-false (n % to == 0) (provided_none (not (n % to == 0)) n h))

below_least : (n least : ℕ) → below (Some n) least ≡ None → least ≤ n
below_least n least h = ltb-false n least (provided_none (nat_lt n least) n h)

abbrev offset_off : Terms → Option PartFault
offset_off t = option_map (λ n. fault.Misaligned n t.align) (off_multiple t.offset t.align)

abbrev offset_below : Terms → Option PartFault
offset_below t = option_map (λ n. fault.Misaligned n t.align) (where_so t.logical (below t.offset t.align))

abbrev align_off : Frame → Terms → Option PartFault
align_off frame t =
    option_map (λ n. fault.Misaligned n frame.sector) (where_so t.tabled (off_multiple (Some t.align) frame.sector))

abbrev size_off : Frame → Terms → Option PartFault
size_off frame t =
    option_map (λ n. fault.Misaligned n frame.sector) (where_so t.tabled (off_multiple t.size frame.sector))

record IsAligned (z : ℕ) (t : Terms) : Type 0 where
  offset : off_multiple t.offset t.align ≡ None
  above : t.logical ≡ true → below t.offset t.align ≡ None
  whole : t.tabled ≡ true → t.align % z ≡ 0

aligned : (frame : Frame) (t : Terms) → misaligned frame t ≡ None → IsAligned frame.sector t
aligned frame t h =
    let first =
    or_none (offset_off t) (option_or (offset_below t) (option_or (align_off frame t) (size_off frame t))) h in
    let second = or_none (offset_below t) (option_or (align_off frame t) (size_off frame t)) first.1 in
    let third = or_none (align_off frame t) (size_off frame t) second.1 in
    record {
      offset = map_none (λ (n : ℕ). fault.Misaligned n t.align) (off_multiple t.offset t.align) first.0;
      above = λ is. where_none t.logical (below t.offset t.align) is
          (map_none (λ (n : ℕ). fault.Misaligned n t.align) (where_so t.logical (below t.offset t.align)) second.0);
      whole = λ is. off_none t.align frame.sector (where_none t.tabled (off_multiple (Some t.align) frame.sector) is
          (map_none (λ (n : ℕ). fault.Misaligned n frame.sector)
          (where_so t.tabled (off_multiple (Some t.align) frame.sector)) third.0));
    }

-- ---- the place of a logical partition

-- so many aligns, and one more
record IsBehind (n align : ℕ) : Type 0 where
  count : ℕ
  is : n ≡ count * align + align

behind_one : (b align n : ℕ) → n ≡ b * align → 1 ≤ align → align ≤ n → IsBehind n align
behind_one zero align n e low above = absurd (omega arith)
behind_one (suc q) align n e low above = record { count = q; is = omega arith }

logical_at : (o : Option ℕ) (align high : ℕ) (c : Bool) → c ≡ true → 1 ≤ align → off_multiple o align ≡ None → below o align ≡ None → IsBehind (unwrap_or o (least_multiple align high + (if c then align else 0))) align
logical_at None align high true is low off above = record { count = (high + (align - 1)) / align; is = refl }
logical_at None align high false is low off above = absurd (cc)
logical_at (Some n) align high c is low off above =
    let whole : n % align ≡ 0 = off_none n align off in
    let split : n / align * align + n % align ≡ n = div-add-mod' n align in
    behind_one (n / align) align n (omega arith) low (below_least n align above)

-- where the record stands that an entry of whole sectors names
abbrev pub record_at : Stood → ℕ
record_at s = 512 * (unwrap_or s.place.head 0 / 512)

-- the record of a logical partition ends at its place or before
pub record IsHead (s : Stood) : Type 0 where
  pub there : s.place.head ≡ Some (record_at s)
  pub ahead : record_at s + 512 ≤ s.place.at

record IsWhole (n align : ℕ) : Type 0 where
  sectors : 512 * ((n - align) / 512) ≡ n - align
  behind : n - align + 512 ≤ n

whole_behind : (n align : ℕ) → IsBehind n align → align % 512 ≡ 0 → 1 ≤ align → IsWhole n align
whole_behind n align b whole low =
    let split : align / 512 * 512 + align % 512 ≡ align = div-add-mod' align 512 in
    let a : ℕ = align / 512 in
    let is : align ≡ a * 512 = omega arith in
    let e : n ≡ b.count * align + align = b.is in
    let rest : n - align ≡ b.count * align = omega arith in
    let product : b.count * align ≡ b.count * (a * 512) = ap (λ (x : ℕ). b.count * x) is in
    let groups : n - align ≡ (b.count * a) * 512 = rest ∙ product ∙ omega arith in
    let k : ℕ = b.count * a in
    let one : 1 ≤ a = omega arith in
    record { sectors = sectors_of (n - align) k groups; behind = omega arith }
  where
    sectors_of : (m k : ℕ) → m ≡ k * 512 → 512 * (m / 512) ≡ m
    sectors_of m k e = omega arith

head_there : (s : Stood) (h : ℕ) → s.place.head ≡ Some h → 512 * (h / 512) ≡ h → h + 512 ≤ s.place.at → IsHead s
head_there s h there whole ahead =
    let same : record_at s ≡ h = ap (λ (o : Option ℕ). 512 * (unwrap_or o 0 / 512)) there ∙ whole in
    record { there = there ∙ ap (λ (n : ℕ). Some n) (sym same); ahead = omega arith }

chosen_head : (c : Bool) (n : ℕ) → c ≡ true → (if c then Some n else None) ≡ Some n
chosen_head true n is = refl
chosen_head false n is = absurd (cc)

is_head : (frame : Frame) (s : Stood) (high : ℕ) → s.place ≡ standing frame s.terms (at_from high s.terms) → s.terms.logical ≡ true → 1 ≤ s.terms.align → IsAligned frame.sector s.terms → s.terms.align % 512 ≡ 0 → IsHead s
is_head frame s high place is low fits whole =
    let t : Terms = s.terms in
    let at : ℕ = at_from high t in
    let behind : IsBehind at t.align = logical_at t.offset t.align high t.logical is low fits.offset (fits.above is) in
    let facts : IsWhole at t.align = whole_behind at t.align behind whole low in
    let here : s.place.at ≡ at = ap (λ (p : Place). p.at) place in
    let head : s.place.head ≡ Some (at - t.align) =
    ap (λ (p : Place). p.head) place ∙ chosen_head t.logical (at - t.align) is in
    let ahead : at - t.align + 512 ≤ at = facts.behind in
    head_there s (at - t.align) head facts.sectors (omega arith)

-- ---- holes

record AreGood (from : ℕ) (spans : List Span) : Type 0 where
  filled : All (λ span. 0 < span.len) spans
  above : All (λ span. from ≤ span.at) spans
  ascend : AllPairs (λ span later. span.at + span.len ≤ later.at) spans

good_test : (c : Bool) (rest : Option ℕ) (k : ℕ) → (if c then rest else Some k) ≡ None → (c ≡ true) × (rest ≡ None)
good_test true rest k h = (refl, h)
good_test false rest k h = absurd (cc)

good_holes : (from k : ℕ) (holes : List Hole) → bad_hole from k holes ≡ None → AreGood from (map hole_span holes)
good_holes from k [] h = record {
  filled = All-nil (λ span. 0 < span.len);
  above = All-nil (λ span. from ≤ span.at);
  ascend = λ i j d order inside. absurd (omega arith);
}
good_holes from k (hole ∷ holes) h =
    let test = good_test (nat_lt hole.from hole.to && nat_le from hole.from) (bad_hole hole.to (k + 1) holes) k h in
    let both = and_parts (nat_lt hole.from hole.to) (nat_le from hole.from) test.0 in
    let grows : hole.from < hole.to = ltb-true hole.from hole.to both.0 in
    let behind : from ≤ hole.from = leb-true from hole.from both.1 in
    let rest : AreGood hole.to (map hole_span holes) = good_holes hole.to (k + 1) holes test.1 in
    record {
      filled = All-cons (λ span. 0 < span.len) (hole_span hole) (map hole_span holes) (omega arith) rest.filled;
      above = All-cons (λ span. from ≤ span.at) (hole_span hole) (map hole_span holes) behind
          (All-weaker (λ span. hole.to ≤ span.at) (λ span. from ≤ span.at) (λ span later. omega arith)
          (map hole_span holes) rest.above);
      ascend = AllPairs-cons (λ span later. span.at + span.len ≤ later.at) (hole_span hole) (map hole_span holes)
          (All-weaker (λ span. hole.to ≤ span.at) (λ later. hole.from + (hole.to - hole.from) ≤ later.at)
          (λ span later. omega arith) (map hole_span holes) rest.above)
          rest.ascend;
    }

bounded_hole : (hole : Hole) → IsHoleWithin hole → hole.from + (hole.to - hole.from) ≤ 2 ^ 43
bounded_hole hole within = let low = within.0 in let high = within.1 in omega arith

are_holes : (holes : List Hole) → bad_holes holes ≡ None → AreFewHoles holes → AreHoles (map hole_span holes)
are_holes holes h few =
    let good : AreGood 0 (map hole_span holes) =
    good_holes 0 0 holes (map_none (λ (k : ℕ). fault.BadHoles k) (bad_hole 0 0 holes) h) in
    record {
      few = let same : length
          (map hole_span holes) ≡ length holes = length-map holes hole_span in let most = few.few in omega arith;
      filled = good.filled;
      ascend = good.ascend;
      bounded = All-map (λ span. span.at + span.len ≤ 2 ^ 43) hole_span holes
          (All-weaker IsHoleWithin (λ hole. hole.from + (hole.to - hole.from) ≤ 2 ^ 43) bounded_hole holes few.each);
    }

-- ---- all of its own

abbrev late : Stood → Option PartFault
late s = option_or (no_size s.terms s.place.size) (too_far s)

abbrev sized : Stood → Option PartFault
sized s = option_or (too_large s.terms s.place.size) (late s)

abbrev grown : Stood → Option PartFault
grown s = option_or (bad_autoresize s.terms s.place.size) (sized s)

-- what holds of a partition by itself, in an image of this table
pub record IsSound (t : TableKind) (z entries_at : ℕ) (s : Stood) : Type 0 where
  pub fits : s.terms.len ≤ s.place.size
  pub holes : AreHoles (map hole_span s.holes)
  pub head : s.terms.logical ≡ true → IsHead s
  pub narrow : s.terms.logical ≡ true → is_mbr t ≡ true
  pub mbr : has_table t ≡ true → meets s (in_run 440 72) ≡ false
  pub header : has_guid t ≡ true → meets s (in_run z z) ≡ false
  pub entries : has_guid t ≡ true → meets s (in_run entries_at entries_len) ≡ false

where_passes : (a b : Bool) → (a && b) ≡ false → a ≡ true → b ≡ false
where_passes true b h is = h
where_passes false b h is = absurd (cc)

pub sound : (frame : Frame) (s : Stood) → (is_mbr frame.table ≡ true → frame.sector ≡ 512) → IsStanding frame s → IsClear frame s → IsSound frame.table frame.sector frame.entries_at s
sound frame s narrow stands clear =
    let first = or_none (misaligned frame s.terms) (option_or (bad_holes s.holes) (grown s)) clear.own in
    let second = or_none (bad_holes s.holes) (grown s) first.1 in
    let third = or_none (bad_autoresize s.terms s.place.size) (sized s) second.1 in
    let fourth = or_none (too_large s.terms s.place.size) (late s) third.1 in
    let fits : IsAligned frame.sector s.terms = aligned frame s.terms first.0 in
    record {
      fits = ltb-false s.place.size s.terms.len
          (provided_none (nat_lt s.place.size s.terms.len) (fault.FileTooLarge s.terms.len s.place.size) fourth.0);
      holes = are_holes s.holes second.0 stands.holes;
      head = λ is.
          let sector : frame.sector ≡ 512 = narrow (stands.terms.narrow is) in
          let whole : s.terms.align % frame.sector ≡ 0 = fits.whole (stands.terms.tabled is) in
          is_head frame s stands.behind stands.place is stands.terms.aligned fits (rw sector at whole);
      narrow = stands.terms.narrow;
      mbr = where_passes (has_table frame.table) (meets s (in_run 440 72)) clear.mbr;
      header = where_passes (has_guid frame.table) (meets s (in_run frame.sector frame.sector)) clear.header;
      entries = where_passes (has_guid frame.table) (meets s (in_run frame.entries_at entries_len)) clear.entries;
    }
