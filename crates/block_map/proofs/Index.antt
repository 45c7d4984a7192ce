-- The index of a map's units.
use Rattle.std.proofs.Common.{◌≡◌, ℕ, ◌+◌, ◌-◌, ◌*◌, ◌^◌, ◌<◌, ◌≤◌, List, [], ◌∷◌, ◌++◌, length, get_or, take, drop, map, inl, inr, leb, true, false, sym, ap, subst, ◌∙◌, arith, length-append, mul-le-mul_right}
use Rattle.std.proofs.lemmas.Bool.{cases_lt, leb-false, leb-true}
use Rattle.std.proofs.lemmas.Grind.{div_ceil_times}
use Rattle.std.proofs.lemmas.List.{get_or-map, length-map, map-append, take-append-drop, take-map, take_all, take_more, take-take}
use Rattle.std.proofs.lemmas.List.Concat.{flat_map-append, get_or-flat_map}
use Rattle.std.proofs.lemmas.Option.{slice_get-get_or}
use Rattle.std.specs.Int.{div_ceil}
use Rattle.std.specs.List.Sorted.{IsNonDecreasingBy, IsPartitionPoint}
use Rattle.std.specs.Prelude.{Some, slice_get}
use Rattle.base_fields.specs.declared.spans.Span.{Span}
use Rattle.block_map.specs.declared.units.Part.{Part}
use Rattle.block_map.specs.Index.{IsIndex, rows_of}
use Rattle.block_map.specs.Pieces.{piece, pieces}
use Rattle.block_map.specs.Units.{IsRangeOf, first_of, joined}
use Rattle.block_map.proofs.Pieces.{begins_within, piece_at, pieces_length}

-- a span within an image has few pieces
pub pieces_few : (unit len : ℕ) → 65536 ≤ unit → len ≤ 2 ^ 43 → div_ceil len unit ≤ 2 ^ 27
pieces_few unit len least most =
    let high : div_ceil len unit * unit < len + unit = (div_ceil_times len unit (omega arith)).1 in
    elim (cases_lt (2 ^ 27) (div_ceil len unit)) [
      | inl more ↦ let row : (2 ^ 27 + 1) * unit ≤ div_ceil len unit * unit = mul-le-mul_right unit (omega arith) in absurd (omega arith)
      | inr fine ↦ fine
    ]

-- one more list
pub joined_more : (rows : List (List Span)) (row : List Span) → length (joined (rows ++ row ∷ [])) ≡ length (joined rows) + length row
joined_more rows row =
    ap (λ (l : List Span). length l) (flat_map-append (λ (r : List Span). r) rows (row ∷ []))
    ∙ length-append (joined rows) (row ++ []) ∙ ap (λ (n : ℕ). length (joined rows) + n) (length-append row [] ∙ omega arith)

pub rows_more : {X : Type 0} (f : X → List Span) (xs : List X) (i : ℕ) (d : X) → i < length xs → length (joined (map f (take (i + 1) xs))) ≡ length (joined (map f (take i xs))) + length (f (get_or xs i d))
rows_more {X} f xs i d below =
    ap (λ (l : List X). length (joined (map f l))) (take_more xs i d below)
    ∙ ap (λ (l : List (List Span)). length (joined l)) (map-append f (take i xs) (get_or xs i d ∷ []))
    ∙ joined_more (map f (take i xs)) (f (get_or xs i d))

pub first_next : (rows : List (List Span)) (r : ℕ) (d : List Span) → r < length rows → first_of rows (r + 1) ≡ first_of rows r + length (get_or rows r d)
first_next rows r d below = ap (λ (l : List (List Span)). length (joined l)) (take_more rows r d below) ∙ joined_more (take r rows) (get_or rows r d)

pub part_first : (unit size count : ℕ) (parts : List Part) (r : ℕ) (d : Part) → IsIndex unit size count parts → r < length parts → first_of (rows_of unit parts) r ≡ (get_or parts r d).first
part_first unit size count parts r d h below =
    ap (λ (l : List (List Span)). length (joined l)) (take-map (λ (p : Part). pieces unit p.span) r parts) ∙ sym (h.firsts r d below)

pub row_at : (unit : ℕ) (parts : List Part) (r : ℕ) (d : Part) (e : List Span) → r < length parts → get_or (rows_of unit parts) r e ≡ pieces unit (get_or parts r d).span
row_at unit parts r d e below = get_or-map (λ (p : Part). pieces unit p.span) parts r d e below

pub rows_length : (unit : ℕ) (parts : List Part) → length (rows_of unit parts) ≡ length parts
rows_length unit parts = length-map parts (λ (p : Part). pieces unit p.span)

some_parts : (unit k : ℕ) (parts : List Part) → k < length (joined (rows_of unit parts)) → 0 < length parts
some_parts unit k [] h = absurd (omega arith)
some_parts unit k (p ∷ parts) h = omega arith

pub first_rises : (rows : List (List Span)) (i j : ℕ) → i ≤ j → first_of rows i ≤ first_of rows j
first_rises rows i j le =
    let whole : take i (take j rows) ++ drop i (take j rows) ≡ take j rows = take-append-drop i (take j rows) in
    let front : take i (take j rows) ≡ take i rows = take-take i j rows le in
    let more : length (joined (take i rows ++ drop i (take j rows))) ≡ first_of rows i + length (joined (drop i (take j rows))) =
    ap (λ (l : List Span). length l) (flat_map-append (λ (l : List Span). l) (take i rows) (drop i (take j rows)))
    ∙ length-append (joined (take i rows)) (joined (drop i (take j rows))) in
    let same : first_of rows j ≡ length (joined (take i rows ++ drop i (take j rows))) =
    ap (λ (l : List (List Span)). length (joined l)) (sym whole ∙ ap (λ (l : List (List Span)). l ++ drop i (take j rows)) front) in
    omega arith

rows_rise : (unit : ℕ) (parts : List Part) (i j : ℕ) → i ≤ j → length (joined (rows_of unit (take i parts))) ≤ length (joined (rows_of unit (take j parts)))
rows_rise unit parts i j le =
    let low : first_of (rows_of unit parts) i ≡ length (joined (rows_of unit (take i parts))) = ap (λ (l : List (List Span)). length (joined l)) (take-map (λ (p : Part). pieces unit p.span) i parts) in
    let high : first_of (rows_of unit parts) j ≡ length (joined (rows_of unit (take j parts))) = ap (λ (l : List (List Span)). length (joined l)) (take-map (λ (p : Part). pieces unit p.span) j parts) in
    let rise : first_of (rows_of unit parts) i ≤ first_of (rows_of unit parts) j = first_rises (rows_of unit parts) i j le in
    omega arith

-- a unit is in one range
no_earlier : (rows : List (List Span)) (k r s : ℕ) → IsRangeOf rows k r → IsRangeOf rows k s → r ≤ s
no_earlier rows k r s h g = elim (cases_lt s r) [
  | inl less ↦ let rise : first_of rows (s + 1) ≤ first_of rows r = first_rises rows (s + 1) r (omega arith) in absurd (omega (arith, h.from, g.to))
  | inr fine ↦ fine
]

pub one_range : (rows : List (List Span)) (k r s : ℕ) → IsRangeOf rows k r → IsRangeOf rows k s → r ≡ s
one_range rows k r s h g = let a : r ≤ s = no_earlier rows k r s h g in let b : s ≤ r = no_earlier rows k s r g h in omega arith

-- the numbers of the first units rise
pub firsts_rise : (unit size count : ℕ) (parts : List Part) → IsIndex unit size count parts → IsNonDecreasingBy (λ p. p.first) parts
firsts_rise unit size count parts h i j d le below =
    let low : (get_or parts i d).first ≡ length (joined (rows_of unit (take i parts))) = h.firsts i d (omega arith) in
    let high : (get_or parts j d).first ≡ length (joined (rows_of unit (take j parts))) = h.firsts j d below in
    let rise : length (joined (rows_of unit (take i parts))) ≤ length (joined (rows_of unit (take j parts))) = rows_rise unit parts i j le in
    omega arith

-- the range of a unit, by the place at which the first units pass it
pub range_found : (unit size count : ℕ) (parts : List Part) (k behind : ℕ) → IsIndex unit size count parts → k < length (joined (rows_of unit parts)) → IsPartitionPoint (λ p. p.first ≤ k) (λ p. k < p.first) parts behind → behind ≤ length parts → (0 < behind) × IsRangeOf (rows_of unit parts) k (behind - 1)
range_found unit size count parts k behind h inside point bound =
    let d : Part = record { first = 0; span = record { at = 0; len = 0 } } in
    let some : 0 < length parts = some_parts unit k parts inside in
    let start : (get_or parts 0 d).first ≡ 0 = h.firsts 0 d some in
    let found : 0 < behind = elim (cases_lt 0 behind) [
      | inl is ↦ is
      | inr none ↦ let late : k < (get_or parts 0 d).first = point.1 0 d (omega arith) some in absurd (omega arith)
    ] in (
      found,
      record {
        there = omega (arith, rows_length unit parts);
        from = let early : (get_or parts (behind - 1) d).first ≤ k = point.0 (behind - 1) d (omega arith) (omega arith) in omega (arith, part_first unit size count parts (behind - 1) d h (omega arith));
        to =
            let next : behind - 1 + 1 ≡ behind = omega arith in
            rw next
            (elim (cases_lt behind (length parts)) [
              | inl more ↦ let late : k < (get_or parts behind d).first = point.1 behind d (omega arith) more in omega (arith, part_first unit size count parts behind d h more)
              | inr last ↦ rw (take_all behind (rows_of unit parts) (omega (arith, rows_length unit parts))) inside
            ]);
      },
    )

-- unit k of the whole, where its range has part p
pub record IsCutAt (unit size : ℕ) (rows : List (List Span)) (p : Part) (k : ℕ) : Type 0 where
  pub from : p.first ≤ k
  pub within : (k - p.first) * unit < p.span.len
  pub end : p.span.at + p.span.len ≤ size
  pub bounded : p.span.at + p.span.len ≤ 2 ^ 43
  pub is : slice_get (joined rows) k ≡ Some (piece unit p.span (k - p.first))

pub unit_found : (unit size count : ℕ) (parts : List Part) (k r : ℕ) (d : Part) → IsIndex unit size count parts → IsRangeOf (rows_of unit parts) k r → k < length (joined (rows_of unit parts)) → IsCutAt unit size (rows_of unit parts) (get_or parts r d) k
unit_found unit size count parts k r d h range inside =
    let rows : List (List Span) = rows_of unit parts in
    let p : Part = get_or parts r d in
    let there : r < length parts = omega (arith, rows_length unit parts, range.there) in
    let first : first_of rows r ≡ p.first = part_first unit size count parts r d h there in
    let row : get_or rows r [] ≡ pieces unit p.span = row_at unit parts r d [] there in
    let many : length (get_or rows r []) ≡ div_ceil p.span.len unit = ap (λ (l : List Span). length l) row ∙ pieces_length unit p.span in
    let next : first_of rows (r + 1) ≡ first_of rows r + length (get_or rows r []) = first_next rows r [] range.there in
    let j : ℕ = k - p.first in
    let below : j < div_ceil p.span.len unit = omega (arith, range.to) in
    let place : first_of rows r + j ≡ k = omega (arith, range.from) in
    let at : get_or (joined rows) (first_of rows r + j) p.span ≡ get_or (get_or rows r []) j p.span = get_or-flat_map (λ (l : List Span). l) rows r j [] p.span range.there (omega arith) in
    record {
      from = omega (arith, range.from);
      within = begins_within unit p.span.len j h.some below;
      end = h.within r d there;
      bounded = omega (arith, h.within r d there, h.small);
      is = slice_get-get_or (joined rows) k p.span inside
          ∙ ap (λ (s : Span). Some s) (ap (λ (n : ℕ). get_or (joined rows) n p.span) (sym place) ∙ at ∙ ap (λ (l : List Span). get_or l j p.span) row ∙ piece_at unit p.span j p.span below);
    }

pub unit_seen : (unit size count : ℕ) (parts : List Part) (rows : List (List Span)) (k r : ℕ) (p : Part) → IsIndex unit size count parts → rows_of unit parts ≡ rows → IsRangeOf rows k r → k < length (joined rows) → p ≡ get_or parts r p → IsCutAt unit size rows p k
unit_seen unit size count parts rows k r p h view range inside is =
    let range' : IsRangeOf (rows_of unit parts) k r = subst (λ (l : List (List Span)). IsRangeOf l k r) (sym view) range in
    let inside' : k < length (joined (rows_of unit parts)) = subst (λ (l : List (List Span)). k < length (joined l)) (sym view) inside in
    let found : IsCutAt unit size (rows_of unit parts) (get_or parts r p) k = unit_found unit size count parts k r p h range' inside' in
    subst (λ (l : List (List Span)). IsCutAt unit size l p k) view (subst (λ (q : Part). IsCutAt unit size (rows_of unit parts) q k) (sym is) found)

pub range_seen : (unit size count : ℕ) (parts : List Part) (rows : List (List Span)) (k behind : ℕ) → IsIndex unit size count parts → rows_of unit parts ≡ rows → k < length (joined rows) → IsPartitionPoint (λ p. p.first ≤ k) (λ p. k < p.first) parts behind → behind ≤ length parts → (0 < behind) × IsRangeOf rows k (behind - 1)
range_seen unit size count parts rows k behind h view inside point bound =
    let inside' : k < length (joined (rows_of unit parts)) = subst (λ (l : List (List Span)). k < length (joined l)) (sym view) inside in
    subst (λ (l : List (List Span)). (0 < behind) × IsRangeOf l k (behind - 1)) view (range_found unit size count parts k behind h inside' point bound)

pub first_point : (parts : List Part) (k i : ℕ) → IsPartitionPoint (λ p. leb p.first k ≡ true) (λ p. leb p.first k ≡ false) parts i → IsPartitionPoint (λ p. p.first ≤ k) (λ p. k < p.first) parts i
first_point parts k i point = (λ j d low high. leb-true _ _ (point.0 j d low high), λ j d low high. leb-false _ _ (point.1 j d low high))

pub row_seen : (unit : ℕ) (parts : List Part) (rows : List (List Span)) (r : ℕ) (p : Part) → rows_of unit parts ≡ rows → r < length rows → p ≡ get_or parts r p → get_or rows r [] ≡ pieces unit p.span
row_seen unit parts rows r p view below is =
    let many : length (rows_of unit parts) ≡ length rows = ap (λ (l : List (List Span)). length l) view in
    ap (λ (l : List (List Span)). get_or l r []) (sym view) ∙ row_at unit parts r p [] (omega (arith, rows_length unit parts)) ∙ ap (λ (q : Part). pieces unit q.span) (sym is)
