-- The bytes of an image in order.
use Rattle.std.specs.Prelude.{◌≡◌, ℕ, zero, suc, ◌+◌, ◌<◌, List, length, get_or}
use Rattle.std.proofs.Common.{refl, ◌∙◌, sym, ap, arith}
use Rattle.std.proofs.lemmas.List.{ext_get_or}
use Rattle.gpt_table.specs.Span.{bytes_at}

pub length-bytes_at : (image : ℕ → ℕ) (o n : ℕ) → length (bytes_at image o n) ≡ n
unfolding bytes_at
length-bytes_at image o zero = refl
length-bytes_at image o (suc n) = let more = length-bytes_at image (o + 1) n in omega arith

pub get_or-bytes_at : (image : ℕ → ℕ) (o n i : ℕ) → i < n → get_or (bytes_at image o n) i 0 ≡ image (o + i)
unfolding bytes_at
get_or-bytes_at image o zero i h = absurd (omega arith)
get_or-bytes_at image o (suc n) zero h = ap image (omega arith)
get_or-bytes_at image o (suc n) (suc i) h =
    get_or-bytes_at image (o + 1) n i (omega arith) ∙ ap image (omega arith)

-- a list that agrees with an image byte by byte
pub bytes_at-is : (image : ℕ → ℕ) (o n : ℕ) (xs : List ℕ) → length xs ≡ n → ((i : ℕ) → i < n → image (o + i) ≡ get_or xs i 0) → bytes_at image o n ≡ xs
bytes_at-is image o n xs len same =
    let n_long = length-bytes_at image o n in
    ext_get_or 0 (bytes_at image o n) xs (n_long ∙ sym len)
    (λ i h. let inside : i < n = omega (arith, n_long) in get_or-bytes_at image o n i inside ∙ same i inside)

-- two images that agree from two offsets on
pub same_bytes_at : (image other : ℕ → ℕ) (o p n : ℕ) → ((i : ℕ) → i < n → image (o + i) ≡ other (p + i)) → bytes_at image o n ≡ bytes_at other p n
same_bytes_at image other o p n same =
    bytes_at-is image o n (bytes_at other p n) (length-bytes_at other p n) (λ i h. same i h ∙ sym (get_or-bytes_at other p n i h))
