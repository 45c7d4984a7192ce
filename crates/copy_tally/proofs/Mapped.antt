-- The units of a map have the bytes that are mapped.
use Rattle.std.proofs.Common.{◌≡◌, ℕ, zero, suc, ◌+◌, ◌-◌, ◌*◌, ◌<◌, ◌≤◌, List, [], ◌∷◌, map, refl, sym, ap, subst, ◌∙◌, arith}
use Rattle.std.proofs.lemmas.Grind.{div_ceil_times}
use Rattle.std.proofs.lemmas.List.FromFn.{sum_by-map-range_with_len_more}
use Rattle.std.proofs.lemmas.List.Sums.{sum_by-append, sum_by-cons}
use Rattle.std.specs.Int.{div_ceil}
use Rattle.std.specs.List.{range_with_len}
use Rattle.std.specs.Prelude.{min, sum_by}
use Rattle.base_fields.specs.declared.spans.Span.{Span}
use Rattle.block_map.specs.Maps.{range_span}
use Rattle.block_map.specs.Pieces.{piece, pieces}
use Rattle.block_map.specs.Units.{joined}
use Rattle.copy_tally.specs.Laws.{UnitsAreMapped}

-- the first n pieces of a span have its first bytes
abbrev bytes_of_first : ℕ → Span → ℕ → ℕ
bytes_of_first unit s n = sum_by (λ u. u.len) (map (piece unit s) (range_with_len 0 n))

first_pieces : (unit : ℕ) (s : Span) (n : ℕ) → bytes_of_first unit s n ≡ min (n * unit) s.len
first_pieces unit s zero = let none : min (0 * unit) s.len ≡ 0 = omega arith in sym none
first_pieces unit s (suc n) =
    let next : bytes_of_first unit s (n + 1) ≡ bytes_of_first unit s n + min unit (s.len - n * unit) =
    sum_by-map-range_with_len_more (λ (u : Span). u.len) (piece unit s) 0 n n (omega arith) in
    let row : (n + 1) * unit ≡ n * unit + unit = omega arith in
    let sum : min (n * unit) s.len + min unit (s.len - n * unit) ≡ min ((n + 1) * unit) s.len = omega (arith, row) in
    let same : n + 1 ≡ suc n = omega arith in
    subst (λ (i : ℕ). bytes_of_first unit s i ≡ min (i * unit) s.len) same
    (next ∙ ap (λ (b : ℕ). b + min unit (s.len - n * unit)) (first_pieces unit s n) ∙ sum)

-- and all pieces have all
pieces_have : (unit : ℕ) (s : Span) → 0 < unit → sum_by (λ (u : Span). u.len) (pieces unit s) ≡ s.len
unfolding pieces
pieces_have unit s some =
    let enough : s.len ≤ div_ceil s.len unit * unit = (div_ceil_times s.len unit some).0 in
    let whole : min (div_ceil s.len unit * unit) s.len ≡ s.len = omega (arith, enough) in
    first_pieces unit s (div_ceil s.len unit) ∙ whole

rows_have : {X : Type 0} (unit : ℕ) (f : X → Span) (xs : List X) → 0 < unit →
    sum_by (λ (u : Span). u.len) (joined (map (λ x. pieces unit (f x)) xs)) ≡ sum_by (λ x. (f x).len) xs
rows_have {X} unit f [] some = refl
rows_have {X} unit f (x ∷ xs) some =
    let rest : List Span = joined (map (λ (y : X). pieces unit (f y)) xs) in
    sum_by-append (λ (u : Span). u.len) (pieces unit (f x)) rest
    ∙ ap (λ (b : ℕ). b + sum_by (λ (u : Span). u.len) rest) (pieces_have unit (f x) some)
    ∙ ap (λ (b : ℕ). (f x).len + b) (rows_have unit f xs some)
    ∙ sym (sum_by-cons (λ (y : X). (f y).len) x xs)

pub units_are_mapped : UnitsAreMapped
units_are_mapped m unit is power = rows_have unit (range_span m) m.ranges (omega (arith, power.not_below))
