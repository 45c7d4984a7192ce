-- Maps that are built range by range.
use Rattle.std.proofs.Common.{◌≡◌, ℕ, zero, suc, ◌-◌, ◌*◌, ◌^◌, ◌<◌, ◌≤◌, List, [], ◌∷◌, ◌++◌, length, get_or, inl, inr, refl, ap, ◌∙◌, arith, length-append, mul-le-mul_right}
use Rattle.std.proofs.lemmas.Bool.{cases_lt}
use Rattle.std.proofs.lemmas.List.{get_or-append_right, get_or_append_left}
use Rattle.std.proofs.lemmas.List.Elements.{All-append, All-nil}
use Rattle.std.specs.Prelude.{All}
use Rattle.block_map.specs.declared.maps.BlockMap.{BlockMap}
use Rattle.block_map.specs.declared.maps.Range.{Range}
use Rattle.base_fields.specs.Numbers.{IsPowerBetween}
use Rattle.block_map.specs.Maps.{AreRanges, Follows, IsMap, IsNext}

-- what a range follows ends before it
pub ends_before : (rs : List Range) (r : Range) → AreRanges rs → Follows rs r → All (λ q. q.last < r.first) rs
ends_before rs r h follows i d below =
    let end : (get_or rs (length rs - 1) d).last < r.first = follows d (omega arith) in
    elim (cases_lt i (length rs - 1)) [
      | inl less ↦
          let gap : (get_or rs i d).last < (get_or rs (length rs - 1) d).first = h.ascend i (length rs - 1) d less (omega arith) in
          let order : (get_or rs (length rs - 1) d).first ≤ (get_or rs (length rs - 1) d).last = h.filled (length rs - 1) d (omega arith) in
          omega arith
      | inr last ↦ let same : i ≡ length rs - 1 = omega arith in rw same end
    ]

pub one : {X : Type 0} (P : X → Type 0) (x : X) → P x → All P (x ∷ [])
one P x h zero d below = h
one P x h (suc k) d below = absurd (omega arith)

pub ranges_grow : (rs : List Range) (r : Range) → AreRanges rs → r.first ≤ r.last → Follows rs r → AreRanges (rs ++ r ∷ [])
ranges_grow rs r h order follows = record {
  filled = All-append (λ (q : Range). q.first ≤ q.last) rs (r ∷ []) h.filled (one (λ (q : Range). q.first ≤ q.last) r order);
  ascend = λ i j d before below.
      let early : i < length rs = omega (arith, length-append rs (r ∷ [])) in
      rw (get_or_append_left rs (r ∷ []) d i early)
      (elim (cases_lt j (length rs)) [
        | inl low ↦ rw (get_or_append_left rs (r ∷ []) d j low) (h.ascend i j d before low)
        | inr high ↦
            let last : j - length rs ≡ 0 = omega (arith, length-append rs (r ∷ [])) in
            let at : get_or (rs ++ r ∷ []) j d ≡ r = get_or-append_right rs (r ∷ []) (length rs) j d refl high ∙ ap (λ (n : ℕ). get_or (r ∷ []) n d) last in
            rw at (ends_before rs r h follows i d early)
      ]);
}

pub begin : (size block : ℕ) → size ≤ 2 ^ 43 → IsPowerBetween 512 65536 block → IsMap (record { size = size; block = block; ranges = [] })
begin size block small power = record {
  size = small;
  block = power;
  few = omega arith;
  filled = All-nil _;
  ascend = λ i j d before below. absurd (omega arith);
  below = All-nil _;
}

pub grow : (m : BlockMap) (r : Range) → IsMap m → IsNext m r → IsMap (record m { ranges = m.ranges ++ r ∷ [] })
grow m r h n =
    let more : AreRanges (m.ranges ++ r ∷ []) = ranges_grow m.ranges r (record { filled = h.filled; ascend = h.ascend }) n.filled n.follows in
    record {
      size = h.size;
      block = h.block;
      few = omega (arith, length-append m.ranges (r ∷ []), n.room);
      filled = more.filled;
      ascend = more.ascend;
      below = All-append (λ (q : Range). q.last * m.block < m.size) m.ranges (r ∷ []) h.below (one (λ (q : Range). q.last * m.block < m.size) r n.below);
    }

-- where the last of ranges begins its last block below a size, all do
pub below_all : (rs : List Range) (size block : ℕ) → AreRanges rs → ((d : Range) → 0 < length rs → (get_or rs (length rs - 1) d).last * block < size) → All (λ r. r.last * block < size) rs
below_all rs size block h end i d below =
    let last : (get_or rs (length rs - 1) d).last * block < size = end d (omega arith) in
    elim (cases_lt i (length rs - 1)) [
      | inl less ↦
          let gap : (get_or rs i d).last < (get_or rs (length rs - 1) d).first = h.ascend i (length rs - 1) d less (omega arith) in
          let order : (get_or rs (length rs - 1) d).first ≤ (get_or rs (length rs - 1) d).last = h.filled (length rs - 1) d (omega arith) in
          let row : (get_or rs i d).last * block ≤ (get_or rs (length rs - 1) d).last * block = mul-le-mul_right block (omega arith) in
          omega arith
      | inr same ↦ let is : i ≡ length rs - 1 = omega arith in rw is last
    ]

pub make : (m : BlockMap) → AreRanges m.ranges → m.size ≤ 2 ^ 43 → IsPowerBetween 512 65536 m.block → length m.ranges ≤ 262144 → ((d : Range) → 0 < length m.ranges → (get_or m.ranges (length m.ranges - 1) d).last * m.block < m.size) → IsMap m
make m h small power few end = record { size = small; block = power; few = few; filled = h.filled; ascend = h.ascend; below = below_all m.ranges m.size m.block h end }
