-- The numbers of units, and what holds of the unit of a number.
use Rattle.std.proofs.Common.{◌≡◌, ℕ, ◌+◌, ◌-◌, ◌/◌, ◌<◌, ◌≤◌, List, [], length, get_or, Some, None, true, inl, inr, refl, sym, ap, subst, ◌∙◌, arith}
use Rattle.std.proofs.lemmas.Bool.{cases_lt}
use Rattle.std.proofs.lemmas.List.{get_or-map, length-map, take_all}
use Rattle.std.proofs.lemmas.List.Concat.{get_or-flat_map}
use Rattle.std.proofs.lemmas.Option.{get_or_from_slice_get, slice_get-get_or, slice_get_past}
use Rattle.std.specs.Int.{div_ceil}
use Rattle.std.specs.Prelude.{All, nat_lt, slice_get}
use Rattle.base_fields.specs.declared.spans.Span.{Span}
use Rattle.span_cover.specs.Cover.{covers, has}
use Rattle.span_cover.proofs.Spans.{Holder, covers_at, has_in, holder, in_has}
use Rattle.block_map.specs.declared.maps.BlockMap.{BlockMap}
use Rattle.block_map.specs.declared.maps.Range.{Range}
use Rattle.block_map.specs.Laws.{AreCutFrom}
use Rattle.block_map.specs.Maps.{IsMap, is_mapped, range_span, runs_of}
use Rattle.block_map.specs.Pieces.{pieces}
use Rattle.block_map.specs.UnitLaws.{FirstsRise, HaveUnits, IsUnit, IsUnitOf}
use Rattle.block_map.specs.Units.{IsRangeOf, first_of, joined, units_by_range, units_of}
use Rattle.block_map.proofs.Index.{first_next, first_rises}
use Rattle.block_map.proofs.Joining.{row_of}
use Rattle.block_map.proofs.Pieces.{piece_at, piece_below, pieces_length}
use Rattle.block_map.proofs.Ranges.{IsSpan, each_true, is_span, true_below, units_are}

-- a place at which something is read is below the length
pub there_below : {X : Type 0} (xs : List X) (k : ℕ) (x : X) → slice_get xs k ≡ Some x → k < length xs
there_below xs k x is = elim (cases_lt k (length xs)) [
  | inl below ↦ below
  | inr past ↦ let none : slice_get xs k ≡ None = slice_get_past xs k past in cc
]

-- ---- a unit and its range
number_below : (rows : List (List Span)) (k r : ℕ) → IsRangeOf rows k r → k - first_of rows r < length (get_or rows r [])
number_below rows k r range = omega (arith, first_next rows r [] range.there, range.from, range.to)

pub row_unit : (rows : List (List Span)) (k r : ℕ) (u : Span) → IsRangeOf rows k r → slice_get (joined rows) k ≡ Some u → slice_get (get_or rows r []) (k - first_of rows r) ≡ Some u
row_unit rows k r u range is =
    let j : ℕ = k - first_of rows r in
    let below : j < length (get_or rows r []) = number_below rows k r range in
    let place : first_of rows r + j ≡ k = omega (arith, range.from) in
    let at : get_or (joined rows) (first_of rows r + j) u ≡ get_or (get_or rows r []) j u = get_or-flat_map (λ (l : List Span). l) rows r j [] u range.there below in
    let same : get_or (get_or rows r []) j u ≡ u = sym at ∙ ap (λ (n : ℕ). get_or (joined rows) n u) place ∙ get_or_from_slice_get (joined rows) k u u is in
    slice_get-get_or (get_or rows r []) j u below ∙ ap (λ (s : Span). Some s) same

pub unit_numbered : (m : BlockMap) (unit k r : ℕ) (u : Span) → 0 < unit → IsRangeOf (units_by_range m unit) k r → slice_get (units_of m unit) k ≡ Some u → IsUnitOf m unit k r (k - first_of (units_by_range m unit) r) u
unit_numbered m unit k r u some range is =
    let rows : List (List Span) = units_by_range m unit in
    let j : ℕ = k - first_of rows r in
    let row : slice_get (get_or rows r []) j ≡ Some u = row_unit rows k r u range is in
    let below : j < length (get_or rows r []) = number_below rows k r range in
    let there : r < length m.ranges = omega (arith, length-map m.ranges (λ (x : Range). pieces unit (range_span m x)), range.there) in
    record {
      number = omega (arith, range.from);
      row = row;
      piece = λ d.
          let is_row : get_or rows r [] ≡ pieces unit (range_span m (get_or m.ranges r d)) = row_of m unit r d there in
          let many : length (get_or rows r []) ≡ div_ceil (range_span m (get_or m.ranges r d)).len unit = ap (λ (l : List Span). length l) is_row ∙ pieces_length unit (range_span m (get_or m.ranges r d)) in
          sym (get_or_from_slice_get (get_or rows r []) j u u row)
          ∙ ap (λ (l : List Span). get_or l j u) is_row
          ∙ piece_at unit (range_span m (get_or m.ranges r d)) j u (omega arith);
    }

pub number_is : (m : BlockMap) (unit r j : ℕ) → r < length m.ranges → j < length (get_or (units_by_range m unit) r []) → IsRangeOf (units_by_range m unit) (first_of (units_by_range m unit) r + j) r
number_is m unit r j below within =
    let there : r < length (units_by_range m unit) = omega (arith, length-map m.ranges (λ (x : Range). pieces unit (range_span m x))) in
    record { there = there; from = omega arith; to = omega (arith, first_next (units_by_range m unit) r [] there) }

-- ---- the first units
pub firsts_rise_on : (rows : List (List Span)) → All (λ row. 0 < length row) rows → FirstsRise rows
firsts_rise_on rows filled = record {
  start = refl;
  rise = λ r s less within.
      let some : 0 < length (get_or rows r []) = filled r [] (omega arith) in
      let next : first_of rows (r + 1) ≡ first_of rows r + length (get_or rows r []) = first_next rows r [] (omega arith) in
      let rest : first_of rows (r + 1) ≤ first_of rows s = first_rises rows (r + 1) s (omega arith) in
      omega arith;
  end = ap (λ (l : List (List Span)). length (joined l)) (take_all (length rows) rows (omega arith));
}

pub ranges_have_units : (m : BlockMap) (unit : ℕ) → IsMap m → 0 < unit → HaveUnits m (units_by_range m unit)
ranges_have_units m unit h some =
    let many : length (units_by_range m unit) ≡ length m.ranges = length-map m.ranges (λ (x : Range). pieces unit (range_span m x)) in
    let filled : All (λ (row : List Span). 0 < length row) (units_by_range m unit) = λ r d below.
    let e : Range = record { first = 0; last = 0; digest = None } in
    let there : r < length m.ranges = omega arith in
    let span : IsSpan m (get_or m.ranges r e) = is_span m (get_or m.ranges r e) (omega (arith, h.block.not_below)) (h.filled r e there) (h.below r e there) in
    let first : 0 / unit < div_ceil (range_span m (get_or m.ranges r e)).len unit = piece_below unit (range_span m (get_or m.ranges r e)).len 0 some span.filled in
    rw (get_or-map (λ (x : Range). pieces unit (range_span m x)) m.ranges r e d there) (omega (arith, pieces_length unit (range_span m (get_or m.ranges r e)))) in
    record { as_many = many; filled = filled; firsts = firsts_rise_on (units_by_range m unit) filled }

-- ---- a unit's bytes
pub unit_is : (m : BlockMap) (unit k : ℕ) (u : Span) → IsMap m → 0 < unit → slice_get (units_of m unit) k ≡ Some u → IsUnit m unit u
unit_is m unit k u h some is =
    let us : List Span = units_of m unit in
    let cut : AreCutFrom unit (is_mapped m) us = units_are m unit h some in
    let below : k < length us = there_below us k u is in
    let at : get_or us k u ≡ u = get_or_from_slice_get us k u u is in
    let filled : 0 < u.len = subst (λ (s : Span). 0 < s.len) at (cut.filled k u below) in
    let mapped : (o : ℕ) → has u o ≡ true → is_mapped m o ≡ true = λ o inside.
    let bounds : (u.at ≤ o) × (o < u.at + u.len) = in_has u o inside in
    sym (cut.exact o)
    ∙ covers_at us k o u below
    (subst (λ (s : Span). s.at ≤ o) (sym at) bounds.0)
    (subst (λ (s : Span). o < s.at + s.len) (sym at) bounds.1) in
    let last : is_mapped m (u.at + u.len - 1) ≡ true = mapped (u.at + u.len - 1) (has_in u (u.at + u.len - 1) (omega arith) (omega arith)) in
    let inside : u.at + u.len - 1 < m.size = true_below (u.at + u.len - 1) m.size (each_true (nat_lt (u.at + u.len - 1) m.size) (covers (runs_of m) ((u.at + u.len - 1) / m.block)) last).0 in
    record {
      filled = filled;
      most = subst (λ (s : Span). s.len ≤ unit) at (cut.most k u below);
      end = omega arith;
      mapped = mapped;
    }

pub units_apart : (m : BlockMap) (unit k later : ℕ) (u v : Span) → IsMap m → 0 < unit → k < later → slice_get (units_of m unit) k ≡ Some u → slice_get (units_of m unit) later ≡ Some v → u.at + u.len ≤ v.at
units_apart m unit k later u v h some less first second =
    let us : List Span = units_of m unit in
    let cut : AreCutFrom unit (is_mapped m) us = units_are m unit h some in
    let gap : (get_or us k u).at + (get_or us k u).len ≤ (get_or us later u).at = cut.ascend k later u less (there_below us later v second) in
    let front : u.at + u.len ≤ (get_or us later u).at = subst (λ (s : Span). s.at + s.len ≤ (get_or us later u).at) (get_or_from_slice_get us k u u first) gap in
    subst (λ (s : Span). u.at + u.len ≤ s.at) (get_or_from_slice_get us later v u second) front

pub mapped_found : (m : BlockMap) (unit o : ℕ) → IsMap m → 0 < unit → is_mapped m o ≡ true → (k : ℕ) × (u : Span) × (slice_get (units_of m unit) k ≡ Some u) × (has u o ≡ true)
mapped_found m unit o h some is =
    let us : List Span = units_of m unit in
    let it : Holder us o = holder us o ((units_are m unit h some).exact o ∙ is) in
    let at : slice_get us it.place ≡ Some it.span = slice_get-get_or us it.place it.span it.within ∙ ap (λ (s : Span). Some s) (it.is it.span) in
    (it.place, it.span, at, has_in it.span o it.low it.high)
