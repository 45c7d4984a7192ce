-- The bytes of a map's ranges.
use Rattle.std.proofs.Common.{◌≡◌, ℕ, ◌+◌, ◌-◌, ◌*◌, ◌/◌, ◌%◌, ◌<◌, ◌≤◌, List, [], ◌∷◌, length, get_or, map, Bool, true, false, ◌||◌, ◌&&◌, refl, sym, subst, ap, ◌∙◌, arith, mul-le-mul_right}
use Rattle.std.proofs.lemmas.Bool.Decides.{nat_tests}
use Rattle.std.proofs.lemmas.Nat.{div-add-mod', div_below, le-div, mod_below, row_fits}
use Rattle.std.proofs.lemmas.List.{get_or-map}
use Rattle.std.proofs.lemmas.List.Elements.{All-head, All-tail}
use Rattle.std.specs.Prelude.{All, AllPairs, nat_lt}
use Rattle.base_fields.specs.declared.spans.Span.{Span}
use Rattle.span_cover.specs.Cover.{covers, has}
use Rattle.span_cover.proofs.Spans.{has_in, in_has, same_bool}
use Rattle.block_map.specs.declared.maps.BlockMap.{BlockMap}
use Rattle.block_map.specs.declared.maps.Range.{Range}
use Rattle.block_map.specs.Maps.{IsMap, is_mapped, range_span, run_of}
use Rattle.block_map.specs.Laws.{AreCutFrom}
use Rattle.block_map.specs.Pieces.{pieces}
use Rattle.block_map.specs.Units.{units_by_range, units_of}
use Rattle.block_map.proofs.Cutting.{AreCut, cut_all, span_cut}

-- a range has bytes, and they end below where the next block would begin
pub record IsSpan (m : BlockMap) (r : Range) : Type 0 where
  pub filled : 0 < (range_span m r).len
  pub end : (range_span m r).at + (range_span m r).len ≤ m.size
  pub next : (range_span m r).at + (range_span m r).len ≤ (r.last + 1) * m.block

pub is_span : (m : BlockMap) (r : Range) → 0 < m.block → r.first ≤ r.last → r.last * m.block < m.size → IsSpan m r
is_span m r some order below =
    let low : r.first * m.block ≤ r.last * m.block = mul-le-mul_right m.block order in
    let high : r.last * m.block + m.block ≤ (r.last + 1) * m.block = row_fits r.last m.block (r.last + 1) m.block (omega arith) (omega arith) in
    record { filled = omega arith; end = omega arith; next = omega arith }

pub spans_ascend : (m : BlockMap) → IsMap m → AllPairs (λ x y. (range_span m x).at + (range_span m x).len ≤ (range_span m y).at) m.ranges
spans_ascend m h i j d before below =
    let some : 0 < m.block = omega (arith, h.block.not_below) in
    let span : IsSpan m (get_or m.ranges i d) = is_span m (get_or m.ranges i d) some (h.filled i d (omega arith)) (h.below i d (omega arith)) in
    let gap : (get_or m.ranges i d).last + 1 ≤ (get_or m.ranges j d).first = omega (arith, h.ascend i j d before below) in
    let far : ((get_or m.ranges i d).last + 1) * m.block ≤ (get_or m.ranges j d).first * m.block = mul-le-mul_right m.block gap in
    omega (arith, span.next)

pub both_true : (a b : Bool) → a ≡ true → b ≡ true → (a && b) ≡ true
both_true a b h k = cc

pub each_true : (a b : Bool) → (a && b) ≡ true → (a ≡ true) × (b ≡ true)
each_true true b h = (refl, h)
each_true false b h = cc

pub below_true : (a b : ℕ) → a < b → nat_lt a b ≡ true
below_true a b h = grind (arith, nat_tests)

pub true_below : (a b : ℕ) → nat_lt a b ≡ true → a < b
true_below a b h = grind (arith, nat_tests)

-- an offset is in a range's bytes exactly where it is below the size and its block is one of the range's
pub span_exact : (m : BlockMap) (r : Range) (o : ℕ) → 0 < m.block → r.first ≤ r.last → has (range_span m r) o ≡ (nat_lt o m.size && has (run_of r) (o / m.block))
span_exact m r o some order =
    let whole : o / m.block * m.block + o % m.block ≡ o = div-add-mod' o m.block in
    same_bool (has (range_span m r) o) (nat_lt o m.size && has (run_of r) (o / m.block))
    (λ h.
    let inside : ((range_span m r).at ≤ o) × (o < (range_span m r).at + (range_span m r).len) = in_has (range_span m r) o h in
    let size : o < m.size = omega arith in
    let first : r.first ≤ o / m.block = le-div r.first o m.block some (omega arith) in
    let last : o / m.block < r.last + 1 = div_below o m.block (r.last + 1) some (omega arith) in
    both_true (nat_lt o m.size) (has (run_of r) (o / m.block)) (below_true o m.size size) (has_in (run_of r) (o / m.block) (omega arith) (omega arith)))
    (λ h.
    let parts = each_true (nat_lt o m.size) (has (run_of r) (o / m.block)) h in
    let size : o < m.size = true_below o m.size parts.0 in
    let inside : (r.first ≤ o / m.block) × (o / m.block < r.first + (r.last + 1 - r.first)) = in_has (run_of r) (o / m.block) parts.1 in
    let low : r.first * m.block ≤ o / m.block * m.block = mul-le-mul_right m.block inside.0 in
    let high : o / m.block * m.block + m.block ≤ (r.last + 1) * m.block = row_fits (o / m.block) m.block (r.last + 1) m.block (omega arith) (omega arith) in
    let rest : o % m.block < m.block = mod_below o m.block some in
    has_in (range_span m r) o (omega arith) (omega arith))

spread : (a b c : Bool) → ((a && b) || (a && c)) ≡ (a && (b || c))
spread true b c = refl
spread false b c = refl

none : (a : Bool) → false ≡ (a && false)
none true = refl
none false = refl

pub spans_exact : (m : BlockMap) (rs : List Range) (o : ℕ) → 0 < m.block → All (λ r. r.first ≤ r.last) rs → covers (map (range_span m) rs) o ≡ (nat_lt o m.size && covers (map run_of rs) (o / m.block))
spans_exact m [] o some order = none (nat_lt o m.size)
spans_exact m (r ∷ rs) o some order =
    ap (λ (b : Bool). b || covers (map (range_span m) rs) o) (span_exact m r o some (All-head (λ (x : Range). x.first ≤ x.last) r rs order))
    ∙ ap (λ (b : Bool). (nat_lt o m.size && has (run_of r) (o / m.block)) || b) (spans_exact m rs o some (All-tail (λ (x : Range). x.first ≤ x.last) r rs order))
    ∙ spread (nat_lt o m.size) (has (run_of r) (o / m.block)) (covers (map run_of rs) (o / m.block))

pub units_are : (m : BlockMap) (unit : ℕ) → IsMap m → 0 < unit → AreCutFrom unit (is_mapped m) (units_of m unit)
units_are m unit h some =
    let cut : AreCut unit (map (range_span m) m.ranges) (units_of m unit) = cut_all unit (range_span m) m.ranges some (spans_ascend m h) in
    record { filled = cut.filled; most = cut.most; ascend = cut.ascend; exact = λ o. cut.exact o ∙ spans_exact m m.ranges o (omega (arith, h.block.not_below)) h.filled }

pub range_cut : (m : BlockMap) (unit r : ℕ) (d : Range) → 0 < unit → r < length m.ranges → AreCutFrom unit (has (range_span m (get_or m.ranges r d))) (get_or (units_by_range m unit) r [])
range_cut m unit r d some below =
    subst (λ (us : List Span). AreCutFrom unit (has (range_span m (get_or m.ranges r d))) us)
    (sym (get_or-map (λ (x : Range). pieces unit (range_span m x)) m.ranges r d [] below))
    (span_cut unit (range_span m (get_or m.ranges r d)) some)
