-- Extents that are found part by part.
use Rattle.std.proofs.Common.{◌≡◌, ℕ, zero, suc, ◌+◌, ◌-◌, ◌<◌, ◌≤◌, Bool, true, false, Option, Some, None, is_some, List, [], ◌∷◌, length, drop, codes, arith, refl, ap, sym, ◌∙◌, add_assoc}
use Rattle.conf_lexer.specs.Text.{◌>>=◌, begins, ends_word, later, parts_len, through_comment, word_len, word_part}

pub later_later : (m n : ℕ) (o : Option ℕ) → later m (later n o) ≡ later (m + n) o
later_later m n None = refl
later_later m n (Some k) = ap Some (sym (add_assoc m n k))

pub later_zero : (o : Option ℕ) → later 0 o ≡ o
later_zero None = refl
later_zero (Some k) = ap Some (omega arith)

-- one length behind another
pub chained : (m n : ℕ) (all rest more : Option ℕ) → all ≡ later m rest → rest ≡ later n more → all ≡ later (m + n) more
chained m n all rest more e f = e ∙ ap (later m) f ∙ later_later m n more

-- where a comment doesn't end yet
pub comment_more : (rest : List ℕ) → 0 < length rest → begins rest (codes "*/") ≡ false → through_comment rest ≡ later 1 (through_comment (drop 1 rest))
comment_more [] h e = absurd (omega arith)
comment_more (b ∷ rest) h e = rw e refl

-- so many bytes that are known to belong
pub parts_skip : (ends : List ℕ → Bool) (part : List ℕ → Option ℕ) (n : ℕ) (rest : List ℕ) → n ≤ length rest → parts_len ends part n rest ≡ later n (parts_len ends part 0 (drop n rest))
parts_skip ends part zero [] h = refl
parts_skip ends part zero (b ∷ rest) h = sym (later_zero _)
parts_skip ends part (suc n) [] h = absurd (omega arith)
parts_skip ends part (suc n) (b ∷ rest) h =
    let tail : parts_len ends part n rest ≡ later n (parts_len ends part 0 (drop n rest)) = parts_skip ends part n rest (omega arith) in
    let sum : 1 + n ≡ suc n = omega arith in
    ap (later 1) tail ∙ later_later 1 n _ ∙ ap (λ k. later k (parts_len ends part 0 (drop n rest))) sum

-- a part, and then the rest
pub parts_more : (ends : List ℕ → Bool) (part : List ℕ → Option ℕ) (n : ℕ) (rest : List ℕ) → 0 < length rest → ends rest ≡ false → part rest ≡ Some n → 0 < n → n ≤ length rest → parts_len ends part 0 rest ≡ later n (parts_len ends part 0 (drop n rest))
parts_more ends part n [] h go e low high = absurd (omega arith)
parts_more ends part zero (b ∷ rest) h go e low high = absurd (omega arith)
parts_more ends part (suc n) (b ∷ rest) h go e low high =
    let tail : parts_len ends part n rest ≡ later n (parts_len ends part 0 (drop n rest)) = parts_skip ends part n rest (omega arith) in
    let sum : 1 + n ≡ suc n = omega arith in
    let one : suc n - 1 ≡ n = omega arith in
    rw (go, e, one) (ap (later 1) tail ∙ later_later 1 n _ ∙ ap (λ k. later k (parts_len ends part 0 (drop n rest))) sum)

-- no part
pub parts_none : (ends : List ℕ → Bool) (part : List ℕ → Option ℕ) (rest : List ℕ) → 0 < length rest → ends rest ≡ false → part rest ≡ None → parts_len ends part 0 rest ≡ None
parts_none ends part [] h go e = absurd (omega arith)
parts_none ends part (b ∷ rest) h go e = rw (go, e) refl

-- the end of the parts
pub parts_end : (ends : List ℕ → Bool) (part : List ℕ → Option ℕ) (rest : List ℕ) → ends rest ≡ true → parts_len ends part 0 rest ≡ Some 0
parts_end ends part [] e = refl
parts_end ends part (b ∷ rest) e = rw e refl

-- after a part the rest is as far as the whole
pub step : (ends : List ℕ → Bool) (part : List ℕ → Option ℕ) (at n : ℕ) (whole rest : List ℕ) → parts_len ends part 0 whole ≡ later at (parts_len ends part 0 rest) → 0 < length rest → ends rest ≡ false → part rest ≡ Some n → 0 < n → n ≤ length rest → parts_len ends part 0 whole ≡ later (at + n) (parts_len ends part 0 (drop n rest))
step ends part at n whole rest e h go f low high = chained at n _ _ _ e (parts_more ends part n rest h go f low high)

is_some_later : (n : ℕ) (o : Option ℕ) → is_some (later n o) ≡ is_some o
is_some_later n None = refl
is_some_later n (Some k) = refl

-- a body is as sound as what is behind its first part
pub sound_step : (ends : List ℕ → Bool) (part : List ℕ → Option ℕ) (n : ℕ) (rest : List ℕ) → 0 < length rest → ends rest ≡ false → part rest ≡ Some n → 0 < n → n ≤ length rest → is_some (parts_len ends part 0 rest) ≡ is_some (parts_len ends part 0 (drop n rest))
sound_step ends part n rest h go f low high = ap is_some (parts_more ends part n rest h go f low high) ∙ is_some_later n _

later_above : (p : Option ℕ) (k : ℕ) → later 1 p ≡ Some k → 0 < k
later_above None k e = absurd (cc)
later_above (Some j) k e = let f : 1 + j ≡ k = cc in omega arith

pub part_above : (o : Option ℕ) (f : ℕ → Option ℕ) (k : ℕ) → (o >>= λ n. later 1 (f n)) ≡ Some k → 0 < k
part_above None f k e = absurd (cc)
part_above (Some n) f k e = later_above (f n) k e

-- a word that doesn't end at once isn't empty
pub word_above : (whole : List ℕ) (k : ℕ) → ends_word whole ≡ false → word_len whole ≡ Some k → 0 < k
word_above [] k go e = absurd (cc)
word_above (b ∷ whole) k go e = part_above (word_part (b ∷ whole)) (λ n. parts_len ends_word word_part (n - 1) whole) k (rw go at e)

-- where the parts end the whole has the length so far
pub ended : (ends : List ℕ → Bool) (part : List ℕ → Option ℕ) (at : ℕ) (whole rest : List ℕ) → parts_len ends part 0 whole ≡ later at (parts_len ends part 0 rest) → ends rest ≡ true → parts_len ends part 0 whole ≡ Some at
ended ends part at whole rest e stop = e ∙ ap (later at) (parts_end ends part rest stop) ∙ ap Some (omega arith)
