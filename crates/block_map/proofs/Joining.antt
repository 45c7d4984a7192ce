-- The bytes of a span's pieces, one behind another.
use Rattle.std.proofs.Common.{◌≡◌, ℕ, zero, suc, ◌+◌, ◌-◌, ◌*◌, ◌<◌, ◌≤◌, min, List, [], ◌++◌, length, get_or, take, drop, inl, inr, sym, ap, ◌∙◌, arith, length-take, mul-le-mul_right}
use Rattle.std.proofs.Math.Seq.{take-add}
use Rattle.std.proofs.lemmas.Bool.{cases_lt}
use Rattle.std.proofs.lemmas.Grind.{div_ceil_times}
use Rattle.std.proofs.lemmas.List.{drop-drop, flat_map_more, get_or-map, take-take, take_all, take_more}
use Rattle.std.specs.Int.{div_ceil}
use Rattle.base_fields.specs.declared.spans.Span.{Span}
use Rattle.block_map.specs.declared.maps.BlockMap.{BlockMap}
use Rattle.block_map.specs.declared.maps.Range.{Range}
use Rattle.block_map.specs.Maps.{part_of, parts_of, range_span}
use Rattle.block_map.specs.Pieces.{piece, pieces}
use Rattle.block_map.specs.Units.{units_by_range}
use Rattle.block_map.proofs.Pieces.{begins_within, piece_at, pieces_length}

-- the bytes of one span more
pub parts_more : (us : List Span) (j : ℕ) (d : Span) (bytes : List ℕ) → j < length us → parts_of (take (j + 1) us) bytes ≡ parts_of (take j us) bytes ++ part_of (get_or us j d) bytes
parts_more us j d bytes below =
    ap (λ (l : List Span). parts_of l bytes) (take_more us j d below)
    ∙ sym (flat_map_more (λ (u : Span). part_of u bytes) [] (take j us) (get_or us j d))

-- as far as there are pieces
fronts : (unit : ℕ) (s : Span) (bytes : List ℕ) (j : ℕ) → 0 < unit → j ≤ div_ceil s.len unit → parts_of (take j (pieces unit s)) bytes ≡ take (min s.len (j * unit)) (drop s.at bytes)
fronts unit s bytes zero some le =
    let none : min s.len (zero * unit) ≡ 0 = omega arith in
    ap (λ (n : ℕ). take n (drop s.at bytes)) (sym none)
fronts unit s bytes (suc j) some le =
    let below : j < div_ceil s.len unit = omega arith in
    let within : j * unit < s.len = begins_within unit s.len j some below in
    let next : suc j ≡ j + 1 = omega arith in
    let before : min s.len (j * unit) ≡ j * unit = omega arith in
    let behind : j * unit + min unit (s.len - j * unit) ≡ min s.len (suc j * unit) = omega arith in
    ap (λ (n : ℕ). parts_of (take n (pieces unit s)) bytes) next
    ∙ parts_more (pieces unit s) j s bytes (omega (arith, pieces_length unit s))
    ∙ ap (λ (u : Span). parts_of (take j (pieces unit s)) bytes ++ part_of u bytes) (piece_at unit s j s below)
    ∙ ap (λ (l : List ℕ). l ++ part_of (piece unit s j) bytes) (fronts unit s bytes j some (omega arith) ∙ ap (λ (n : ℕ). take n (drop s.at bytes)) before)
    ∙ ap (λ (l : List ℕ). take (j * unit) (drop s.at bytes) ++ take (min unit (s.len - j * unit)) l) (sym (drop-drop (j * unit) s.at bytes))
    ∙ sym (take-add (j * unit) (min unit (s.len - j * unit)) (drop s.at bytes))
    ∙ ap (λ (n : ℕ). take n (drop s.at bytes)) behind

-- the bytes of all pieces are the span's
pub pieces_join : (unit : ℕ) (s : Span) (bytes : List ℕ) → 0 < unit → parts_of (pieces unit s) bytes ≡ part_of s bytes
pieces_join unit s bytes some =
    let high : s.len ≤ div_ceil s.len unit * unit = (div_ceil_times s.len unit some).0 in
    let whole : min s.len (div_ceil s.len unit * unit) ≡ s.len = omega arith in
    ap (λ (l : List Span). parts_of l bytes) (sym (take_all (div_ceil s.len unit) (pieces unit s) (omega (arith, pieces_length unit s))))
    ∙ fronts unit s bytes (div_ceil s.len unit) some (omega arith)
    ∙ ap (λ (n : ℕ). take n (drop s.at bytes)) whole

-- those of the first j are its first ones
pub front_join : (unit : ℕ) (s : Span) (bytes : List ℕ) (j : ℕ) → 0 < unit → parts_of (take j (pieces unit s)) bytes ≡ take (j * unit) (part_of s bytes)
front_join unit s bytes j some =
    elim (cases_lt j (div_ceil s.len unit)) [
      | inl below ↦
          let within : j * unit < s.len = begins_within unit s.len j some below in
          let before : min s.len (j * unit) ≡ j * unit = omega arith in
          fronts unit s bytes j some (omega arith)
          ∙ ap (λ (n : ℕ). take n (drop s.at bytes)) before
          ∙ sym (take-take (j * unit) s.len (drop s.at bytes) (omega arith))
      | inr past ↦
          let high : s.len ≤ div_ceil s.len unit * unit = (div_ceil_times s.len unit some).0 in
          let more : div_ceil s.len unit * unit ≤ j * unit = mul-le-mul_right unit past in
          ap (λ (l : List Span). parts_of l bytes) (take_all j (pieces unit s) (omega (arith, pieces_length unit s)))
          ∙ pieces_join unit s bytes some
          ∙ sym (take_all (j * unit) (part_of s bytes) (omega (arith, length-take s.len (drop s.at bytes))))
    ]

-- a range's row of units
pub row_of : (m : BlockMap) (unit r : ℕ) (d : Range) → r < length m.ranges → get_or (units_by_range m unit) r [] ≡ pieces unit (range_span m (get_or m.ranges r d))
row_of m unit r d below = get_or-map (λ (x : Range). pieces unit (range_span m x)) m.ranges r d [] below

pub first_units_join : (m : BlockMap) (unit r j : ℕ) (d : Range) (bytes : List ℕ) → 0 < unit → r < length m.ranges → parts_of (take j (get_or (units_by_range m unit) r [])) bytes ≡ take (j * unit) (part_of (range_span m (get_or m.ranges r d)) bytes)
first_units_join m unit r j d bytes some below =
    ap (λ (l : List Span). parts_of (take j l) bytes) (row_of m unit r d below)
    ∙ front_join unit (range_span m (get_or m.ranges r d)) bytes j some

pub units_join : (m : BlockMap) (unit r : ℕ) (d : Range) (bytes : List ℕ) → 0 < unit → r < length m.ranges → parts_of (get_or (units_by_range m unit) r []) bytes ≡ part_of (range_span m (get_or m.ranges r d)) bytes
units_join m unit r d bytes some below =
    ap (λ (l : List Span). parts_of l bytes) (row_of m unit r d below)
    ∙ pieces_join unit (range_span m (get_or m.ranges r d)) bytes some
