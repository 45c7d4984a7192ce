-- The ranges of a map, one behind another.
use Rattle.std.proofs.Common.{◌≡◌, ℕ, suc, ◌+◌, ◌-◌, ◌*◌, ◌^◌, ◌<◌, ◌≤◌, List, [], ◌∷◌, ◌++◌, length, get_or, All, AllPairs}
use Rattle.std.proofs.Common.{Some, IfSome, ap, append-nil, append_assoc, arith, length-append, lt_of_mul-lt-mul_right, lt_of_lt_of_le, mul-le-mul_left, refl, slice_get, subst, sym, ◌∙◌}
use Rattle.std.proofs.lemmas.Grind.{div_ceil_times}
use Rattle.std.proofs.lemmas.List.Sums.{sum_by-cons}
use Rattle.std.specs.Int.{div_ceil}
use Rattle.std.specs.List.{AllByRecursion}
use Rattle.block_map.specs.Maps.{IsMap, block_count, blocks_in}
use Rattle.block_map.specs.declared.maps.BlockMap.{BlockMap}
use Rattle.block_map.specs.declared.maps.Range.{Range}
use Rattle.bmap_grammar.specs.Stood.{block_behind, next_of}
use Rattle.bmap_laws.specs.Digests.{HasDigests, IsDigest}

-- from a block on, each range has blocks in front of an end, and begins behind the one before
abbrev pub Rise : ℕ → ℕ → List Range → Type 0
Rise from end [] = Unit {0}
Rise from end (r ∷ rs) = (from ≤ r.first) × (r.first ≤ r.last) × (r.last < end) × Rise (r.last + 1) end rs

rise_of : (from end : ℕ) (rs : List Range) → All (λ r. from ≤ r.first) rs → All (λ r. r.first ≤ r.last) rs →
    AllPairs (λ r later. r.last < later.first) rs → All (λ r. r.last < end) rs → Rise from end rs
rise_of from end [] start filled ascend below = tt
rise_of from end (r ∷ rs) start filled ascend below = (
  start 0 r (omega arith),
  filled 0 r (omega arith),
  below 0 r (omega arith),
  rise_of (r.last + 1) end rs
      (λ k d within. (let up = ascend 0 (suc k) d (omega arith) (omega (arith, within)) in omega (arith, up)))
      (λ k d within. filled (suc k) d (omega (arith, within)))
      (λ i j d up within. ascend (suc i) (suc j) d (omega (arith, up)) (omega (arith, within)))
      (λ k d within. below (suc k) d (omega (arith, within))),
)

-- ---- the number of blocks

pub few_blocks : (m : BlockMap) → IsMap m → block_count m ≤ 2 ^ 43
few_blocks m h =
    let above = h.block.not_below in
    let below = h.block.not_above in
    let size = h.size in
    let whole = div_ceil_times m.size m.block (omega (arith, above)) in
    let within : div_ceil m.size m.block * m.block < m.size + m.block = whole.1 in
    let least : div_ceil m.size m.block * 512 ≤ div_ceil m.size m.block * m.block =
    mul-le-mul_left (div_ceil m.size m.block) above in
    omega (arith, within, least, below, size)

below_count : (last size block : ℕ) → 0 < block → last * block < size → last < div_ceil size block
below_count last size block some h =
    let whole = div_ceil_times size block some in
    let up : size ≤ div_ceil size block * block = whole.0 in
    lt_of_mul-lt-mul_right block (lt_of_lt_of_le h up)

pub map_rises : (m : BlockMap) → IsMap m → Rise 0 (block_count m) m.ranges
map_rises m h =
    let above = h.block.not_below in
    rise_of 0 (block_count m) m.ranges (λ k d within. omega arith) h.filled h.ascend
    (λ k d within. below_count (get_or m.ranges k d).last m.size m.block (omega (arith, above)) (h.below k d within))

-- ranges have no more blocks than there are
pub blocks_below : (from end : ℕ) (rs : List Range) → from ≤ end → Rise from end rs → from + blocks_in rs ≤ end
blocks_below from end [] within h = omega (arith, within)
blocks_below from end (r ∷ rs) within h =
    let more = blocks_below (r.last + 1) end rs (omega (arith, h.2)) h.3 in
    let sum = sum_by-cons (λ (x : Range). x.last + 1 - x.first) r rs in
    omega (arith, more, sum, h.0, h.1)

-- ---- where the next range may begin

last_there : (done : List Range) (r : Range) → slice_get (done ++ r ∷ []) (length done) ≡ Some r
last_there [] r = refl
last_there (x ∷ done) r = last_there done r

pub next_behind : (done : List Range) (r : Range) → next_of (done ++ r ∷ []) ≡ r.last + 1
next_behind done r =
    let long = length-append done (r ∷ []) in
    let place : length (done ++ r ∷ []) - 1 ≡ length done = omega (arith, long) in
    ap (λ (k : ℕ). block_behind (slice_get (done ++ r ∷ []) k)) place ∙ ap block_behind (last_there done r)

-- and behind all of them it may at most begin at the end
pub next_below : (done rs : List Range) (end : ℕ) → next_of done ≤ end → Rise (next_of done) end rs →
    next_of (done ++ rs) ≤ end
next_below done [] end within h =
    let same : next_of (done ++ []) ≡ next_of done = ap next_of (append-nil done) in
    omega (arith, same, within)
next_below done (r ∷ rs) end within h =
    let behind = next_behind done r in
    let on : Rise (next_of (done ++ r ∷ [])) end rs = subst (λ (n : ℕ). Rise n end rs) (sym behind) h.3 in
    let more = next_below (done ++ r ∷ []) rs end (omega (arith, behind, h.2)) on in
    let together : next_of ((done ++ r ∷ []) ++ rs) ≡ next_of (done ++ r ∷ rs) =
    ap next_of (append_assoc done (r ∷ []) rs) in
    omega (arith, together, more)

-- ---- digests, one by one

digests_each : (rs : List Range) → All (λ r. IfSome r.digest IsDigest) rs →
    AllByRecursion (λ r. IfSome r.digest IsDigest) rs
digests_each [] h = tt
digests_each (r ∷ rs) h = (h 0 r (omega arith), digests_each rs (λ k d within. h (suc k) d (omega (arith, within))))

pub digests_of : (m : BlockMap) → HasDigests m → AllByRecursion (λ r. IfSome r.digest IsDigest) m.ranges
digests_of m h = digests_each m.ranges h
