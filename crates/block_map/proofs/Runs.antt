-- A map's ranges as runs of blocks: from a cover, and as their digests change.
use Rattle.std.proofs.Common.{◌≡◌, ℕ, zero, suc, ◌+◌, ◌-◌, ◌*◌, ◌/◌, ◌^◌, ◌<◌, ◌≤◌, List, [], ◌∷◌, length, get_or, set, map, Some, refl, sym, ap, subst, ◌∙◌, arith}
use Rattle.std.proofs.Math.Nat.{div-mul-le_self, le-mul_of_pos_right}
use Rattle.std.proofs.lemmas.List.{get_or-map, length-map, length-set}
use Rattle.std.proofs.lemmas.List.Elements.{All-set}
use Rattle.std.specs.Prelude.{All}
use Rattle.base_fields.specs.declared.spans.Span.{Span}
use Rattle.span_cover.specs.Cover.{AreTouchedRuns, IsTouched}
use Rattle.span_cover.proofs.Spans.{covers_at}
use Rattle.block_map.specs.declared.maps.BlockMap.{BlockMap}
use Rattle.block_map.specs.declared.maps.Range.{Range}
use Rattle.base_fields.specs.Numbers.{IsPowerBetween}
use Rattle.block_map.specs.Maps.{HasDigestSet, HasRunsOf, IsMap, run_of, runs_of}

-- the last block of a run of touched blocks begins below the size
pub run_below : (spans runs : List Span) (size block k : ℕ) (d : Span) → AreTouchedRuns spans size block runs → k < length runs → ((get_or runs k d).at + (get_or runs k d).len - 1) * block < size
run_below spans runs size block k d h below =
    let some : 0 < (get_or runs k d).len = h.maximal.filled k d below in
    let last : ℕ = (get_or runs k d).at + (get_or runs k d).len - 1 in
    let touched : IsTouched spans size block last = (h.exact last).0 (covers_at runs k last d below (omega arith) (omega arith)) in
    let small : touched.0 / block * block ≤ touched.0 = div-mul-le_self touched.0 block in
    let same : touched.0 / block * block ≡ last * block = ap (λ (b : ℕ). b * block) touched.3 in
    omega (arith, touched.2)

pub runs_bounded : (spans runs : List Span) (size block : ℕ) → AreTouchedRuns spans size block runs → 0 < block → size ≤ 2 ^ 43 → All (λ run. run.at + run.len ≤ 2 ^ 43) runs
runs_bounded spans runs size block h some small k d below =
    let last : ((get_or runs k d).at + (get_or runs k d).len - 1) * block < size = run_below spans runs size block k d h below in
    let more : (get_or runs k d).at + (get_or runs k d).len - 1 ≤ ((get_or runs k d).at + (get_or runs k d).len - 1) * block = le-mul_of_pos_right _ some in
    omega arith

pub runs_filled : (spans : List Span) (size block : ℕ) (m : BlockMap) → HasRunsOf spans size block m → All (λ r. r.first ≤ r.last) m.ranges
runs_filled spans size block m h k d below =
    let is : get_or (runs_of m) k (run_of d) ≡ run_of (get_or m.ranges k d) = get_or-map run_of m.ranges k d (run_of d) below in
    let some : 0 < (run_of (get_or m.ranges k d)).len = subst (λ (s : Span). 0 < s.len) is (h.runs.maximal.filled k (run_of d) (omega (arith, length-map m.ranges run_of))) in
    omega arith

-- the map of a cover is a map
pub is_map : (spans : List Span) (size block : ℕ) (m : BlockMap) → HasRunsOf spans size block m → size ≤ 2 ^ 43 → IsPowerBetween 512 65536 block → length m.ranges ≤ 262144 → IsMap m
is_map spans size block m h small power few = record {
  size = omega (arith, h.same_size);
  block = subst (λ (b : ℕ). IsPowerBetween 512 65536 b) (sym h.same_block) power;
  few = few;
  filled = runs_filled spans size block m h;
  ascend = λ i j d before below.
      let gap : (get_or (runs_of m) i (run_of d)).at + (get_or (runs_of m) i (run_of d)).len < (get_or (runs_of m) j (run_of d)).at = h.runs.maximal.apart i j (run_of d) before (omega (arith, length-map m.ranges run_of)) in
      let first : get_or (runs_of m) i (run_of d) ≡ run_of (get_or m.ranges i d) = get_or-map run_of m.ranges i d (run_of d) (omega arith) in
      let second : get_or (runs_of m) j (run_of d) ≡ run_of (get_or m.ranges j d) = get_or-map run_of m.ranges j d (run_of d) below in
      let gap' : (run_of (get_or m.ranges i d)).at + (run_of (get_or m.ranges i d)).len < (run_of (get_or m.ranges j d)).at =
      subst (λ (s : Span). (run_of (get_or m.ranges i d)).at + (run_of (get_or m.ranges i d)).len < s.at) second
      (subst (λ (s : Span). s.at + s.len < (get_or (runs_of m) j (run_of d)).at) first gap) in
      omega arith;
  below = λ k d below.
      let r : Range = get_or m.ranges k d in
      let is : get_or (runs_of m) k (run_of d) ≡ run_of r = get_or-map run_of m.ranges k d (run_of d) below in
      let low : ((run_of r).at + (run_of r).len - 1) * block < size =
      subst (λ (s : Span). (s.at + s.len - 1) * block < size) is (run_below spans (runs_of m) size block k (run_of d) h.runs (omega (arith, length-map m.ranges run_of))) in
      let order : r.first ≤ r.last = runs_filled spans size block m h k d below in
      let last : (run_of r).at + (run_of r).len - 1 ≡ r.last = omega arith in
      let low' : r.last * block < size = subst (λ (n : ℕ). n * block < size) last low in
      rw (h.same_size, h.same_block) low';
}

-- a digest doesn't change the runs
runs_set : (rs : List Range) (k : ℕ) (d : Range) (digest : List ℕ) → map run_of (set rs k (record (get_or rs k d) { digest = Some digest })) ≡ map run_of rs
runs_set [] k d digest = refl
runs_set (r ∷ rs) zero d digest = refl
runs_set (r ∷ rs) (suc k) d digest = ap (λ (l : List Span). run_of r ∷ l) (runs_set rs k d digest)

pub runs_kept : (old new : BlockMap) (k : ℕ) (d : Range) (digest : List ℕ) → HasDigestSet old k digest new → runs_of new ≡ runs_of old
runs_kept old new k d digest h = ap (λ (l : List Range). map run_of l) (h.ranges d) ∙ runs_set old.ranges k d digest

pub filled_kept : (old new : BlockMap) (k : ℕ) (d : Range) (digest : List ℕ) → HasDigestSet old k digest new → k < length old.ranges → All (λ r. r.first ≤ r.last) old.ranges → All (λ r. r.first ≤ r.last) new.ranges
filled_kept old new k d digest h below filled =
    subst (λ (l : List Range). All (λ r. r.first ≤ r.last) l) (sym (h.ranges d))
    (All-set (λ (r : Range). r.first ≤ r.last) old.ranges k (record (get_or old.ranges k d) { digest = Some digest }) (filled k d below) filled)

-- a range of the new map begins and ends where that of the old one does
record SamePlace (old new : Range) : Type 0 where
  first : new.first ≡ old.first
  last : new.last ≡ old.last

same_place : (old new : BlockMap) (i : ℕ) (d : Range) → runs_of new ≡ runs_of old → All (λ r. r.first ≤ r.last) old.ranges → All (λ r. r.first ≤ r.last) new.ranges → length new.ranges ≡ length old.ranges → i < length old.ranges → SamePlace (get_or old.ranges i d) (get_or new.ranges i d)
same_place old new i d runs before behind many below =
    let is : run_of (get_or new.ranges i d) ≡ run_of (get_or old.ranges i d) =
    sym (get_or-map run_of new.ranges i d (run_of d) (omega arith)) ∙ ap (λ (l : List Span). get_or l i (run_of d)) runs ∙ get_or-map run_of old.ranges i d (run_of d) below in
    let at : (run_of (get_or new.ranges i d)).at ≡ (run_of (get_or old.ranges i d)).at = ap (λ (s : Span). s.at) is in
    let len : (run_of (get_or new.ranges i d)).len ≡ (run_of (get_or old.ranges i d)).len = ap (λ (s : Span). s.len) is in
    let order : (get_or old.ranges i d).first ≤ (get_or old.ranges i d).last = before i d below in
    let order' : (get_or new.ranges i d).first ≤ (get_or new.ranges i d).last = behind i d (omega arith) in
    record { first = omega arith; last = omega arith }

pub map_kept : (old new : BlockMap) (k : ℕ) (d : Range) (digest : List ℕ) → HasDigestSet old k digest new → k < length old.ranges → IsMap old → IsMap new
map_kept old new k d digest h below m =
    let filled : All (λ r. r.first ≤ r.last) new.ranges = filled_kept old new k d digest h below m.filled in
    let many : length new.ranges ≡ length old.ranges = ap (λ (l : List Range). length l) (h.ranges d) ∙ length-set old.ranges k (record (get_or old.ranges k d) { digest = Some digest }) in
    let place : (i : ℕ) (e : Range) → i < length old.ranges → SamePlace (get_or old.ranges i e) (get_or new.ranges i e) = λ i e i<. same_place old new i e (runs_kept old new k d digest h) m.filled filled many i< in
    record {
      size = omega (arith, h.size, m.size);
      block = subst (λ (b : ℕ). IsPowerBetween 512 65536 b) (sym h.block) m.block;
      few = omega (arith, m.few);
      filled = filled;
      ascend = λ i j e before j<. omega (arith, (place i e (omega arith)).last, (place j e (omega arith)).first, m.ascend i j e before (omega arith));
      below = λ i e i<. rw ((place i e (omega arith)).last, h.block, h.size) (m.below i e (omega arith));
    }
