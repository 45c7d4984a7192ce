-- The pieces of one span.
use Rattle.std.proofs.Common.{◌≡◌, ℕ, ◌+◌, ◌-◌, ◌*◌, ◌/◌, ◌%◌, ◌<◌, ◌≤◌, length, get_or, true, subst, arith}
use Rattle.std.proofs.lemmas.Grind.{div_ceil_times}
use Rattle.std.proofs.lemmas.List.FromFn.{get_or-map-range_with_len, length-map-range_with_len}
use Rattle.std.proofs.lemmas.Nat.{div-add-mod', div_below, mod_below, row_fits}
use Rattle.std.specs.Int.{div_ceil}
use Rattle.std.specs.Prelude.{All, AllPairs}
use Rattle.base_fields.specs.declared.spans.Span.{Span}
use Rattle.span_cover.specs.Cover.{covers, has}
use Rattle.span_cover.proofs.Spans.{Holder, covers_at, has_in, holder, in_has, same_bool}
use Rattle.block_map.specs.Pieces.{piece, pieces}

pub pieces_length : (unit : ℕ) (s : Span) → length (pieces unit s) ≡ div_ceil s.len unit
unfolding pieces
pieces_length unit s = length-map-range_with_len (piece unit s) 0 (div_ceil s.len unit)

pub piece_at : (unit : ℕ) (s : Span) (j : ℕ) (d : Span) → j < div_ceil s.len unit → get_or (pieces unit s) j d ≡ piece unit s j
unfolding pieces
piece_at unit s j d below = get_or-map-range_with_len (piece unit s) 0 (div_ceil s.len unit) j j d below (omega arith)

-- a piece begins within its span, at the same place as all before it end
pub begins_within : (unit len j : ℕ) → 0 < unit → j < div_ceil len unit → j * unit < len
begins_within unit len j some below =
    let high : div_ceil len unit * unit < len + unit = (div_ceil_times len unit some).1 in
    let row : j * unit + unit ≤ div_ceil len unit * unit = row_fits j unit (div_ceil len unit) unit below (omega arith) in
    omega arith

-- a place within a span is in a piece
pub piece_below : (unit len o : ℕ) → 0 < unit → o < len → o / unit < div_ceil len unit
piece_below unit len o some below =
    let low : len ≤ div_ceil len unit * unit = (div_ceil_times len unit some).0 in
    div_below o unit (div_ceil len unit) some (omega arith)

pub piece_filled : (unit : ℕ) (s : Span) → 0 < unit → All (λ u. 0 < u.len) (pieces unit s)
piece_filled unit s some j d below =
    let j' : j < div_ceil s.len unit = omega (arith, pieces_length unit s) in
    let within : j * unit < s.len = begins_within unit s.len j some j' in
    rw (piece_at unit s j d j') (omega arith)

pub piece_most : (unit : ℕ) (s : Span) → 0 < unit → All (λ u. u.len ≤ unit) (pieces unit s)
piece_most unit s some j d below =
    let j' : j < div_ceil s.len unit = omega (arith, pieces_length unit s) in
    rw (piece_at unit s j d j') (omega arith)

pub piece_ends : (unit : ℕ) (s : Span) → 0 < unit → All (λ u. u.at + u.len ≤ s.at + s.len) (pieces unit s)
piece_ends unit s some j d below =
    let j' : j < div_ceil s.len unit = omega (arith, pieces_length unit s) in
    let within : j * unit < s.len = begins_within unit s.len j some j' in
    rw (piece_at unit s j d j') (omega arith)

pub pieces_ascend : (unit : ℕ) (s : Span) → 0 < unit → AllPairs (λ u later. u.at + u.len ≤ later.at) (pieces unit s)
pieces_ascend unit s some i j d before below =
    let j' : j < div_ceil s.len unit = omega (arith, pieces_length unit s) in
    let row : i * unit + unit ≤ j * unit = row_fits i unit j unit before (omega arith) in
    rw (piece_at unit s i d (omega arith), piece_at unit s j d j') (omega arith)

in_pieces : (unit : ℕ) (s : Span) (o : ℕ) → 0 < unit → covers (pieces unit s) o ≡ true → has s o ≡ true
in_pieces unit s o some c =
    let it : Holder (pieces unit s) o = holder (pieces unit s) o c in
    let j' : it.place < div_ceil s.len unit = omega (arith, pieces_length unit s, it.within) in
    let is : it.span ≡ piece unit s it.place = rw (← it.is s) (piece_at unit s it.place s j') in
    let within : it.place * unit < s.len = begins_within unit s.len it.place some j' in
    let low : (piece unit s it.place).at ≤ o = subst (λ (x : Span). x.at ≤ o) is it.low in
    let high : o < (piece unit s it.place).at + (piece unit s it.place).len = subst (λ (x : Span). o < x.at + x.len) is it.high in
    has_in s o (omega arith) (omega arith)

pieces_have : (unit : ℕ) (s : Span) (o : ℕ) → 0 < unit → has s o ≡ true → covers (pieces unit s) o ≡ true
pieces_have unit s o some h =
    let inside : (s.at ≤ o) × (o < s.at + s.len) = in_has s o h in
    let j : ℕ = (o - s.at) / unit in
    let j' : j < div_ceil s.len unit = piece_below unit s.len (o - s.at) some (omega arith) in
    let whole : j * unit + (o - s.at) % unit ≡ o - s.at = div-add-mod' (o - s.at) unit in
    let rest : (o - s.at) % unit < unit = mod_below (o - s.at) unit some in
    covers_at (pieces unit s) j o s (omega (arith, pieces_length unit s))
    (rw (piece_at unit s j s j') (omega arith))
    (rw (piece_at unit s j s j') (omega arith))

pub pieces_exact : (unit : ℕ) (s : Span) (o : ℕ) → 0 < unit → covers (pieces unit s) o ≡ has s o
pieces_exact unit s o some = same_bool (covers (pieces unit s) o) (has s o) (in_pieces unit s o some) (pieces_have unit s o some)
