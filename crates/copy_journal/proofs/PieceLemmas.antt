-- Marks and zeros, written and read.
use Rattle.std.proofs.Common.{◌≡◌, ◌⊎◌, ℕ, ◌+◌, ◌-◌, ◌<◌, ◌≤◌, List, [], ◌∷◌, ◌++◌, All, length, map, take, drop, Contains, get_or, slice_index, ap, subst, sym, inl, inr, ◌∙◌, arith}
use Rattle.std.proofs.lemmas.Bool.{cases_lt}
use Rattle.std.proofs.lemmas.Grind.{common_steps, get_or_default_zero}
use Rattle.std.proofs.lemmas.List.{get_or-append_right, get_or-drop, get_or-map, get_or-take, length-append, length-drop, length-take-le}
use Rattle.std.proofs.lemmas.List.Elements.{Contains-get_or}
use Rattle.base_fields.specs.Fields.{written}
use Rattle.bench.specs.declared.Dev.{Dev}
use Rattle.bench.specs.Disk.{Disk, Touches}
use Rattle.bench.proofs.DiskLemmas.{touches_then, touches_within}
use Rattle.copy_journal.specs.Events.{AreMarked, AreZero, IsMarkOf}

-- ---- what a write leaves

pub written_below : (old bytes : List ℕ) (at k : ℕ) → at ≤ length old → k < at → slice_index (written old at bytes) k ≡ slice_index old k
written_below old bytes at k inside below = grind (arith, common_steps)

pub written_inside : (old bytes : List ℕ) (at k : ℕ) → at ≤ length old → k < length bytes → slice_index (written old at bytes) (at + k) ≡ slice_index bytes k
written_inside old bytes at k inside within = grind (arith, common_steps)

pub written_above : (old bytes : List ℕ) (at k : ℕ) → at ≤ length old → at + length bytes ≤ k → slice_index (written old at bytes) k ≡ slice_index old k
written_above old bytes at k inside above =
    let front : length (take at old ++ bytes) ≡ at + length bytes = rw length-append (let e = length-take-le at old inside in omega arith) in
    let place : at + length bytes + (k - (at + length bytes)) ≡ k = omega arith in
    get_or-append_right (take at old ++ bytes) (drop (at + length bytes) old) (at + length bytes) k 0 front above
    ∙ (get_or-drop (at + length bytes) old (k - (at + length bytes)) 0 ∙ ap (slice_index old) place)

pub length-written : (old bytes : List ℕ) (at : ℕ) → at + length bytes ≤ length old → length (written old at bytes) ≡ length old
length-written old bytes at inside = grind (arith, common_steps)

-- one write more, within the bytes that may have changed
pub touches_more : {dev : Dev} {at n : ℕ} {a b c : Disk} (from len : ℕ) → Touches dev from len a b → Touches dev at n b c → from ≤ at → at + n ≤ from + len → Touches dev from len a c
touches_more {dev} {at} {n} {a} {b} {c} from len first second low high = touches_then first (touches_within from len second low high)

-- ---- zeros

-- a piece of zeros behind those that are there
pub zeros_more : (old zeros : List ℕ) (at done : ℕ) → All (λ b. b ≡ 0) zeros → at + done + length zeros ≤ length old → AreZero at done old → AreZero at (done + length zeros) (written old (at + done) zeros)
zeros_more old zeros at done all inside before k low high = elim (cases_lt k (at + done)) [
  | inl below ↦ written_below old zeros (at + done) k (omega arith) below ∙ before k low below
  | inr behind ↦
      let i = k - (at + done) in
      let place : at + done + i ≡ k = omega arith in
      let within : i < length zeros = omega arith in
      ap (λ (n : ℕ). slice_index (written old (at + done) zeros) n) (sym place) ∙ (written_inside old zeros (at + done) i (omega arith) within ∙ all i 0 within)
]

-- the last piece of zeros, which are the front of others
pub zeros_last : (old new zeros : List ℕ) (at done n count : ℕ) → new ≡ written old (at + done) (take n zeros) → All (λ b. b ≡ 0) zeros → n ≤ length zeros → done + n ≡ count → at + count ≤ length old → AreZero at done old → AreZero at count new
zeros_last old new zeros at done n count wrote all within sum inside before =
    let long : length (take n zeros) ≡ n = length-take-le n zeros within in
    let front : All (λ b. b ≡ 0) (take n zeros) = λ k d h. let below : k < n = omega arith in get_or-take n zeros k d below ∙ all k d (omega arith) in
    let more = zeros_more old (take n zeros) at done front (omega arith) before in
    λ k low high. ap (λ (j : List ℕ). slice_index j k) wrote ∙ more k low (omega arith)

-- ---- marks that are read

-- the marks of a run are recorded exactly where all bytes that were read are
pub marked_run : (at n : ℕ) (j piece : List ℕ) → at + n ≤ length j → piece ≡ take n (drop at j) → (All (λ mark. mark ≡ 0x44) piece → AreMarked at n j) × (AreMarked at n j → All (λ mark. mark ≡ 0x44) piece)
marked_run at n j piece inside is =
    let long : length piece ≡ n = ap length is ∙ length-take-le n (drop at j) (omega (arith, length-drop at j)) in
    let byte : (k d : ℕ) → k < n → get_or piece k d ≡ slice_index j (at + k) = λ k d h.
    get_or_default_zero piece k d (omega arith) ∙ (ap (λ (xs : List ℕ). get_or xs k 0) is ∙ (get_or-take n (drop at j) k 0 h ∙ get_or-drop at j k 0)) in (
      λ all k low high.
          let i = k - at in
          let place : at + i ≡ k = omega arith in
          let within : i < n = omega arith in
          let here : i < length piece = omega arith in
          ap (slice_index j) (sym place) ∙ (sym (byte i 0 within) ∙ all i 0 here),
      λ marked k d h. let within : k < n = omega arith in byte k d within ∙ marked (at + k) (omega arith) (omega arith),
    )

-- marks up to a place, and those of a piece behind it
pub marked_more : (at done n : ℕ) (j : List ℕ) → AreMarked at done j → AreMarked (at + done) n j → AreMarked at (done + n) j
marked_more at done n j before piece k low high = elim (cases_lt k (at + done)) [
  | inl below ↦ before k low below
  | inr behind ↦ piece k behind (omega arith)
]

-- ---- marks of units

-- a byte that is written is there, and one that was there and is written nowhere else stays
pub mark_there : (old : List ℕ) (at mark k : ℕ) → at < length old → (k ≡ at) ⊎ (slice_index old k ≡ mark) → slice_index (written old at (mark ∷ [])) k ≡ mark
mark_there old at mark k inside there = grind (arith, common_steps)

-- the byte at the place of a unit's mark is one of the marks
pub is_mark : (ks : List ℕ) (i k : ℕ) → i < length ks → 80 + slice_index ks i ≤ k → k < 80 + slice_index ks i + 1 → IsMarkOf ks k
is_mark ks i k inside low high =
    let place = λ (unit : ℕ). 80 + unit in
    let long : i < length (map place ks) = search (arith, common_steps) in
    let e : slice_index (map place ks) i ≡ k = get_or-map place ks i 0 0 inside ∙ omega (arith, low, high) in
    subst (λ p. Contains (map place ks) p) e (Contains-get_or (map place ks) i 0 long)
