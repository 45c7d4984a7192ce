-- The bytes of a window, as those of the padded image.
use Rattle.std.proofs.Common.{◌≡◌, ℕ, ◌+◌, ◌-◌, ◌≤◌, zero, suc, List, ◌∷◌, ◌++◌, length, take, drop, replicate, min, refl, ap, subst, sym, ◌∙◌, append-nil, arith, inl, inr}
use Rattle.std.proofs.Math.Seq.{take-add, take-append_seam}
use Rattle.std.proofs.lemmas.Bool.{cases_lt}
use Rattle.std.proofs.lemmas.Grind.{common_steps}
use Rattle.std.proofs.lemmas.List.{drop-take, take-append-le, drop-append-le}
use Rattle.sparse_text.specs.Blocks.{padded}
use Rattle.sparse_windows.specs.Windows.{sized}

front : (n m : ℕ) (xs : List ℕ) → n ≤ m → take n (take m xs) ≡ take n xs
front n m xs within = search (arith, common_steps)

-- bytes of an image that its file has
sized_part : (size at len : ℕ) (bytes : List ℕ) → at + len ≤ size → at + len ≤ length bytes → take len (drop at (sized size bytes)) ≡ take len (drop at bytes)
sized_part size at len bytes below within =
    let zeros : List ℕ = replicate size 0 in
    let split : size ≡ at + (size - at) = omega (arith, below) in
    let moved : drop at (take size (bytes ++ zeros)) ≡ take (size - at) (drop at (bytes ++ zeros)) =
    ap (λ (n : ℕ). drop at (take n (bytes ++ zeros))) split ∙ drop-take at (size - at) (bytes ++ zeros) in
    let cut : take len (take (size - at) (drop at (bytes ++ zeros))) ≡ take len (drop at (bytes ++ zeros)) = front len (size - at) (drop at (bytes ++ zeros)) (omega (arith, below)) in
    let apart : drop at (bytes ++ zeros) ≡ drop at bytes ++ zeros = drop-append-le at bytes zeros (omega (arith, within)) in
    let long : len ≤ length (drop at bytes) = search (arith, common_steps) in
    ap (take len) moved ∙ cut ∙ ap (take len) apart ∙ take-append-le len (drop at bytes) zeros long

pub sized_long : (size : ℕ) (bytes : List ℕ) → length (sized size bytes) ≡ size
sized_long size bytes = search (arith, common_steps)

zeros_cut : (n block : ℕ) → n ≤ block → take {A = ℕ} n (replicate block 0) ≡ replicate n 0
zeros_cut zero block within = refl
zeros_cut (suc n) zero within = absurd (omega (arith, within))
zeros_cut (suc n) (suc b) within = ap (λ (xs : List ℕ). 0 ∷ xs) (zeros_cut n b (omega (arith, within)))

-- a window that is within the image
whole_window : (size at n block : ℕ) (bytes : List ℕ) → at + n ≤ size → at + n ≤ length bytes → take n (drop at bytes) ≡ take n (drop at (padded (sized size bytes) block))
whole_window size at n block bytes below within =
    let long = sized_long size bytes in
    let image = sized size bytes in
    let apart : drop at (image ++ replicate block 0) ≡ drop at image ++ replicate block 0 = drop-append-le at image (replicate block 0) (omega (arith, long, below)) in
    let room : n ≤ length (drop at image) = search (arith, common_steps, long) in
    sym (ap (take n) apart ∙ take-append-le n (drop at image) (replicate block 0) room ∙ sized_part size at n bytes below within)

-- a window that reaches past its end
last_window : (size at more block : ℕ) (bytes : List ℕ) → at ≤ size → size ≤ length bytes → more ≤ block →
    take (size - at) (drop at bytes) ++ replicate more 0 ≡ take (size - at + more) (drop at (padded (sized size bytes) block))
last_window size at more block bytes below within room =
    let long = sized_long size bytes in
    let image = sized size bytes in
    let n = size - at in
    let zeros : List ℕ = replicate block 0 in
    let apart : drop at (image ++ zeros) ≡ drop at image ++ zeros = drop-append-le at image zeros (omega (arith, long, below)) in
    let rest : length (drop at image) ≡ n = search (arith, common_steps, long) in
    let all : take n (drop at image) ≡ drop at image = search (arith, common_steps, rest) in
    let part : drop at image ≡ take n (drop at bytes) = sym all ∙ sized_part size at n bytes (omega (arith, below)) (omega (arith, below, within)) in
    let first : take n (drop at image ++ zeros) ≡ drop at image = subst (λ (m : ℕ). take m (drop at image ++ zeros) ≡ drop at image) rest (take-append_seam (drop at image) zeros) in
    let behind : drop n (drop at image ++ zeros) ≡ zeros = search (arith, common_steps, rest) in
    let cut = zeros_cut more block room in
    sym (ap (take (n + more)) apart ∙ take-add n more (drop at image ++ zeros) ∙ ap (λ (xs : List ℕ). xs ++ take more (drop n (drop at image ++ zeros))) (first ∙ part)
    ∙ ap (λ (xs : List ℕ). take n (drop at bytes) ++ take more xs) behind ∙ ap (λ (xs : List ℕ). take n (drop at bytes) ++ xs) cut)

-- either
pub window_bytes : (size at n len block : ℕ) (bytes : List ℕ) → len ≡ min n (size - at) → at ≤ size → at + len ≤ length bytes → at + n ≤ size + block →
    take len (drop at bytes) ++ replicate (n - len) 0 ≡ take n (drop at (padded (sized size bytes) block))
window_bytes size at n len block bytes is below within near = elim (cases_lt size (at + n)) [
  | inl past ↦
      let short : len ≡ size - at = omega (arith, is, past, below) in
      let rest : n ≡ size - at + (n - len) = omega (arith, short, past, below) in
      let last = last_window size at (n - len) block bytes below (omega (arith, short, within, below)) (omega (arith, short, near, past, below)) in
      ap (λ (m : ℕ). take m (drop at bytes) ++ replicate (n - len) 0) short ∙ last ∙ ap (λ (m : ℕ). take m (drop at (padded (sized size bytes) block))) (sym rest)
  | inr inside ↦
      let long : len ≡ n = omega (arith, is, inside) in
      let none : n - len ≡ 0 = omega (arith, long) in
      ap (λ (m : ℕ). take len (drop at bytes) ++ replicate m 0) none ∙ append-nil (take len (drop at bytes)) ∙ ap (λ (m : ℕ). take m (drop at bytes)) long
      ∙ whole_window size at n block bytes (omega (arith, inside)) (omega (arith, long, within))
]
