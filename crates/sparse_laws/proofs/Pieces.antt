-- Parts of a file that stand one behind another.
use Rattle.std.proofs.Common.{◌≡◌, ℕ, ◌+◌, ◌≤◌, List, ◌++◌, length, take, drop, nat_le, true, Ok, refl, ap, sym, ◌∙◌, arith}
use Rattle.std.proofs.Math.Seq.{drop-append_seam, take-append_seam}
use Rattle.std.proofs.lemmas.Bool.Decides.{nat_tests}
use Rattle.std.proofs.lemmas.List.{drop-drop, length-append, length-drop}
use Rattle.sparse_reader.specs.Header.{part_of}

-- a part of a file from an offset on, with the rest behind it
pub record Stands (bytes : List ℕ) (at : ℕ) (part rest : List ℕ) : Type 0 where
  pub within : at ≤ length bytes
  pub there : drop at bytes ≡ part ++ rest

not_above : (a b : ℕ) → a ≤ b → nat_le a b ≡ true
not_above a b h = grind (arith, nat_tests)

-- the file is as long
pub long_enough : (bytes part rest : List ℕ) (at n : ℕ) → Stands bytes at part rest → length part ≡ n →
    at + n ≤ length bytes
long_enough bytes part rest at n h long =
    let within = h.within in
    let left = length-drop at bytes in
    let both = length-append part rest in
    let same : length (drop at bytes) ≡ length (part ++ rest) = ap (λ (xs : List ℕ). length xs) h.there in
    omega (arith, within, left, both, same, long)

-- it is read
pub part_read : (bytes part rest : List ℕ) (at n : ℕ) → Stands bytes at part rest → length part ≡ n →
    part_of bytes at n ≡ Ok part
part_read bytes part rest at n h long =
    let passes = not_above (at + n) (length bytes) (long_enough bytes part rest at n h long) in
    let is : take n (drop at bytes) ≡ part =
    ap (λ (xs : List ℕ). take n xs) h.there
    ∙ ap (λ (m : ℕ). take m (part ++ rest)) (sym long)
    ∙ take-append_seam part rest in
    rw (passes, is) refl

-- the rest stands behind it
pub rest_there : (bytes part rest : List ℕ) (at n : ℕ) → Stands bytes at part rest → length part ≡ n →
    drop (at + n) bytes ≡ rest
rest_there bytes part rest at n h long =
    sym (drop-drop n at bytes)
    ∙ ap (λ (xs : List ℕ). drop n xs) h.there
    ∙ ap (λ (m : ℕ). drop m (part ++ rest)) (sym long)
    ∙ drop-append_seam part rest
