-- The bytes of units and of ranges on two images of the target.
use Rattle.std.proofs.Common.{◌≡◌, ◌≢◌, ℕ, zero, suc, ◌+◌, ◌<◌, ◌≤◌, List, [], length, get_or, inl, inr, sym, ap, subst, ◌∙◌, arith}
use Rattle.std.proofs.lemmas.Bool.{cases_lt}
use Rattle.std.proofs.lemmas.List.{length-map, take_all}
use Rattle.std.proofs.lemmas.List.Concat.{get_or-flat_map}
use Rattle.std.proofs.lemmas.List.Folds.{length-flat_map-take}
use Rattle.std.proofs.lemmas.Option.{get_or_from_slice_get, slice_get-get_or, slice_get_within}
use Rattle.std.specs.Prelude.{Contains, IsTrue, Some, slice_get}
use Rattle.sha2.specs.Sha256.{sha256}
use Rattle.base_fields.specs.declared.spans.Span.{Span}
use Rattle.span_cover.specs.Cover.{has}
use Rattle.span_cover.proofs.Spans.{has_in, in_has}
use Rattle.block_map.specs.Maps.{digest_in, part_of, parts_of, range_span}
use Rattle.block_map.specs.Pieces.{pieces}
use Rattle.block_map.specs.Units.{IsRangeOf, first_of, joined, units_by_range, units_of}
use Rattle.block_map.specs.declared.maps.BlockMap.{BlockMap}
use Rattle.block_map.specs.declared.maps.Range.{Range}
use Rattle.block_map.proofs.Index.{first_rises}
use Rattle.block_map.proofs.Joining.{units_join}
use Rattle.block_map.proofs.Numbering.{number_is, units_apart}
use Rattle.journal_format.specs.declared.jobs.JobId.{JobId}
use Rattle.copy_states.specs.Jobs.{IsInRange, IsJobOf, IsRangeAt, IsUnitAt, SameIn}
use Rattle.copy_laws.specs.Writes.{UnitsTorn}
use Rattle.copy_laws.proofs.Bytes.{same_in, same_parts}

pub some_unit : (id : JobId) (m : BlockMap) → IsJobOf id m → 0 < id.unit
some_unit id m job = omega (arith, job.unit.not_below)

-- two units have no offset in common
pub apart : (id : JobId) (m : BlockMap) (k l o : ℕ) (u v : Span) → IsJobOf id m → IsUnitAt id m k u → IsUnitAt id m l v → k ≢ l → IsTrue (has u o) → IsTrue (has v o) → ⊥
apart id m k l o u v job is is' other in_u in_v =
    let a : (u.at ≤ o) × (o < u.at + u.len) = in_has u o in_u in
    let b : (v.at ≤ o) × (o < v.at + v.len) = in_has v o in_v in
    elim (cases_lt k l) [
      | inl less ↦ let gap : u.at + u.len ≤ v.at = units_apart m id.unit k l u v job.map (some_unit id m job) less is is' in omega (arith, a.0, a.1, b.0, b.1)
      | inr more ↦ let gap : v.at + v.len ≤ u.at = units_apart m id.unit l k v u job.map (some_unit id m job) (omega (arith, other)) is' is in omega (arith, a.0, a.1, b.0, b.1)
    ]

-- a unit that isn't among these reads the same
pub other_unit : (id : JobId) (m : BlockMap) (ks : List ℕ) (l : ℕ) (v : Span) (t new : List ℕ) → IsJobOf id m → UnitsTorn id m ks t new → IsUnitAt id m l v → ¬ Contains ks l → SameIn v t new
other_unit id m ks l v t new job torn is out =
    same_in v t new torn.size (λ o low high.
    torn.same o (λ byte.
    let k : ℕ = byte.0 in
    let other : k ≢ l = λ e. out (subst (λ (n : ℕ). Contains ks n) e byte.2) in
    apart id m k l o byte.1 v job byte.3 is other byte.4 (has_in v o low high)))

-- ---- ranges
pub rows_length : (id : JobId) (m : BlockMap) → length (units_by_range m id.unit) ≡ length m.ranges
rows_length id m = length-map m.ranges (λ (x : Range). pieces id.unit (range_span m x))

-- number i of a range's units is a unit
row_unit_at : (rows : List (List Span)) (r i : ℕ) (u : Span) → r < length rows → slice_get (get_or rows r []) i ≡ Some u → slice_get (joined rows) (first_of rows r + i) ≡ Some u
row_unit_at rows r i u there is =
    let row : List Span = get_or rows r [] in
    let below : i < length row = slice_get_within row i u is in
    let at : get_or (joined rows) (first_of rows r + i) u ≡ get_or row i u = get_or-flat_map (λ (l : List Span). l) rows r i [] u there below in
    let most : first_of rows r + length row ≤ length (joined rows) = length-flat_map-take (λ (l : List Span). l) rows r [] there in
    slice_get-get_or (joined rows) (first_of rows r + i) u (omega arith) ∙ ap (λ (s : Span). Some s) (at ∙ get_or_from_slice_get row i u u is)

-- a range's digest is the same, where each of its units reads the same
pub same_digest : (id : JobId) (m : BlockMap) (r : ℕ) (range : Range) (t new : List ℕ) → IsJobOf id m → IsRangeAt m r range → ((k : ℕ) (u : Span) → IsInRange id m k r → IsUnitAt id m k u → SameIn u t new) → digest_in m new range ≡ digest_in m t range
same_digest id m r range t new job is same =
    let rows : List (List Span) = units_by_range m id.unit in
    let below : r < length m.ranges = slice_get_within m.ranges r range is in
    let some : 0 < id.unit = some_unit id m job in
    let it : get_or m.ranges r range ≡ range = get_or_from_slice_get m.ranges r range range is in
    let whole : (xs : List ℕ) → parts_of (get_or rows r []) xs ≡ part_of (range_span m range) xs = λ xs. units_join m id.unit r range xs some below ∙ ap (λ (x : Range). part_of (range_span m x) xs) it in
    let parts : parts_of (get_or rows r []) new ≡ parts_of (get_or rows r []) t =
    same_parts (get_or rows r []) t new (λ i u at.
    same (first_of rows r + i) u
    (number_is m id.unit r i below (slice_get_within (get_or rows r []) i u at))
    (row_unit_at rows r i u (omega (arith, rows_length id m)) at)) in
    ap (λ (xs : List ℕ). sha256 xs) (sym (whole new) ∙ parts ∙ whole t)

-- a unit's number is below the count
pub unit_below : (id : JobId) (m : BlockMap) (k : ℕ) (u : Span) → IsJobOf id m → IsUnitAt id m k u → k < id.units
unit_below id m k u job is = omega (arith, job.units, slice_get_within (units_of m id.unit) k u is)

-- and so is that of a range's
pub in_range_below : (id : JobId) (m : BlockMap) (k r : ℕ) → IsJobOf id m → IsInRange id m k r → k < id.units
in_range_below id m k r job mine =
    let rows : List (List Span) = units_by_range m id.unit in
    let rise : first_of rows (r + 1) ≤ first_of rows (length rows) = first_rises rows (r + 1) (length rows) (omega (arith, mine.there)) in
    let end : first_of rows (length rows) ≡ length (joined rows) = ap (λ (l : List (List Span)). length (joined l)) (take_all (length rows) rows (omega arith)) in
    omega (arith, job.units, mine.to)

pub range_below : (id : JobId) (m : BlockMap) (k r : ℕ) → IsJobOf id m → IsInRange id m k r → r < id.ranges
range_below id m k r job mine = omega (arith, job.ranges, rows_length id m, mine.there)

-- each number below the count is in a range
found_below : (rows : List (List Span)) (k n : ℕ) → n ≤ length rows → k < first_of rows n → (r : ℕ) × IsRangeOf rows k r
found_below rows k zero le less = absurd (omega arith)
found_below rows k (suc n) le less =
    let next : suc n ≡ n + 1 = omega arith in
    elim (cases_lt k (first_of rows n)) [
      | inl before ↦ found_below rows k n (omega arith) before
      | inr behind ↦ (n, record { there = omega arith; from = behind; to = subst (λ (i : ℕ). k < first_of rows i) next less })
    ]

pub range_found : (id : JobId) (m : BlockMap) (k : ℕ) (u : Span) → IsUnitAt id m k u → (r : ℕ) × IsInRange id m k r
range_found id m k u is =
    let rows : List (List Span) = units_by_range m id.unit in
    let end : first_of rows (length rows) ≡ length (joined rows) = ap (λ (l : List (List Span)). length (joined l)) (take_all (length rows) rows (omega arith)) in
    found_below rows k (length rows) (omega arith) (omega (arith, slice_get_within (joined rows) k u is))

pub number_found : (id : JobId) (m : BlockMap) (k : ℕ) → IsJobOf id m → k < id.units → (r : ℕ) × IsInRange id m k r
number_found id m k job below =
    let rows : List (List Span) = units_by_range m id.unit in
    let end : first_of rows (length rows) ≡ length (joined rows) = ap (λ (l : List (List Span)). length (joined l)) (take_all (length rows) rows (omega arith)) in
    found_below rows k (length rows) (omega arith) (omega (arith, job.units))
