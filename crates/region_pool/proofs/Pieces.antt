-- The buffers that a block's bytes are cut into.
use Rattle.std.proofs.Common.{◌≡◌, ℕ, zero, suc, ◌+◌, ◌-◌, ◌*◌, ◌<◌, ◌≤◌, List, [], ◌∷◌, ◌++◌, length, take, drop, get_or, set, replicate, refl, sym, ap, ◌∙◌, arith, suc-mul, take_at, length-take, length-drop, length-append, append_assoc}
use Rattle.std.proofs.Math.Seq.{take-append-add, drop-append_seam, drop-drop}
use Rattle.std.proofs.lemmas.List.{take-append-drop, take-replicate, drop-replicate}
use native.Mathlib.Nat.{mul-le-mul_right}
use Rattle.std.specs.List.{refill, length_refill}
use Rattle.region_pool.specs.Blocks.{pieces, with_part}

pub length-pieces : (size n : ℕ) (xs : List ℕ) → length (pieces size n xs) ≡ n
unfolding pieces
length-pieces size zero xs = refl
length-pieces size (suc n) xs = ap suc (length-pieces size n (drop size xs))

-- the buffer of a slot
pub piece_at : (size n : ℕ) (xs : List ℕ) (i : ℕ) → i < n → get_or (pieces size n xs) i [] ≡ take size (drop (i * size) xs)
unfolding pieces
piece_at size zero xs i h = absurd (omega arith)
piece_at size (suc n) xs zero h = let start : 0 ≡ 0 * size = omega arith in ap (λ k. take size (drop k xs)) start
piece_at size (suc n) xs (suc i) h =
    let at : size + i * size ≡ suc i * size = omega (arith, suc-mul i size) in
    piece_at size n (drop size xs) i (omega arith) ∙ ap (take size) (drop-drop (i * size) size xs ∙ ap (λ k. drop k xs) at)

-- a block of zeros
pub zero_pieces : (size n : ℕ) → pieces size n (replicate (n * size) 0) ≡ replicate n (replicate size 0)
unfolding pieces
zero_pieces size zero = refl
zero_pieces size (suc n) =
    let all : ℕ = suc n * size in
    let front : size ≤ all = omega (arith, suc-mul n size) in
    let rest : all - size ≡ n * size = omega (arith, suc-mul n size) in
    (λ k. take-replicate size all 0 front k ∷ pieces size n (drop-replicate size all 0 k)) ∙ ap (λ (k : ℕ). replicate size 0 ∷ pieces size n (replicate k 0)) rest ∙ ap (λ l. replicate size 0 ∷ l) (zero_pieces size n)

first_piece : (size n : ℕ) (x ys : List ℕ) → length x ≡ size → pieces size (suc n) (x ++ ys) ≡ x ∷ pieces size n ys
unfolding pieces
first_piece size n x ys h =
    let past : drop size (x ++ ys) ≡ ys = ap (λ k. drop k (x ++ ys)) (sym h) ∙ drop-append_seam x ys in
    λ k. take_at x ys size h k ∷ pieces size n (past k)

-- the bytes of one buffer are written
pub piece_set : (size n : ℕ) (xs : List ℕ) (i : ℕ) (ws : List ℕ) → i < n → n * size ≤ length xs → length ws ≡ size
    → pieces size n (take (i * size) xs ++ (ws ++ drop (i * size + size) xs)) ≡ set (pieces size n xs) i ws
unfolding pieces
piece_set size zero xs i ws h long as_long = absurd (omega arith)
piece_set size (suc n) xs zero ws h long as_long =
    let start : 0 * size ≡ 0 = omega arith in
    let past : 0 * size + size ≡ size = omega arith in
    (λ k. pieces size (suc n) (take (start k) xs ++ (ws ++ drop (past k) xs))) ∙ first_piece size n ws (drop size xs) as_long
piece_set size (suc n) xs (suc i) ws h long as_long =
    let front = take size xs in
    let ys = drop size xs in
    let at : ℕ = i * size in
    let more : suc i * size ≡ at + size = suc-mul i size in
    let all : suc n * size ≡ n * size + size = suc-mul n size in
    let full : length front ≡ size = omega (arith, length-take size xs) in
    let rest = ws ++ drop (at + size) ys in
    let seam : suc i * size ≡ length front + at = omega arith in
    let before : take (suc i * size) xs ≡ front ++ take at ys = (λ k. take (suc i * size) (sym (take-append-drop size xs) k)) ∙ ap (λ k. take k (front ++ ys)) seam ∙ take-append-add front ys at in
    let past : suc i * size + size ≡ size + (at + size) = omega arith in
    let behind : drop (suc i * size + size) xs ≡ drop (at + size) ys = ap (λ k. drop k xs) past ∙ sym (drop-drop (at + size) size xs) in
    (λ k. pieces size (suc n) (before k ++ (ws ++ behind k)))
    ∙ ap (pieces size (suc n)) (append_assoc front (take at ys) rest)
    ∙ first_piece size n front (take at ys ++ rest) full
    ∙ ap (λ l. front ∷ l) (piece_set size n ys i ws (omega arith) (omega (arith, length-drop size xs)) as_long)

-- the buffer of a slot lies in the block
pub piece_within : (size n i : ℕ) → i < n → i * size + size ≤ n * size
piece_within size n i h =
    let below : suc i ≤ n = omega (arith, h) in
    omega (arith, mul-le-mul_right size below, suc-mul i size)

pub length-part : (xs : List ℕ) (at len : ℕ) (ws : List ℕ) → at + len ≤ length xs → length (with_part xs at len ws) ≡ length xs
length-part xs at len ws h =
    let old = take len (drop at xs) in
    let long : len ≡ length old = omega (arith, length-take len (drop at xs), length-drop at xs) in
    omega (arith, length-append (take at xs) (refill len old ws ++ drop (at + len) xs), length-append (refill len old ws) (drop (at + len) xs), length_refill len old ws long, length-take at xs, length-drop (at + len) xs)

-- a write to one buffer is seen in its slot alone
pub piece_written : (size n : ℕ) (xs : List ℕ) (i : ℕ) (ws : List ℕ) → i < n → length xs ≡ n * size
    → pieces size n (with_part xs (i * size) size ws) ≡ set (pieces size n xs) i (refill size (get_or (pieces size n xs) i []) ws)
piece_written size n xs i ws h all =
    let at : ℕ = i * size in
    let old = take size (drop at xs) in
    let long : size ≡ length old = omega (arith, piece_within size n i h, length-take size (drop at xs), length-drop at xs) in
    piece_set size n xs i (refill size old ws) h (omega arith) (sym (length_refill size old ws long))
    ∙ ap (λ l. set (pieces size n xs) i (refill size l ws)) (sym (piece_at size n xs i h))
