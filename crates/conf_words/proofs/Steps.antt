-- The parts of a text, one after another.
use Rattle.std.proofs.Common.{◌≡◌, ℕ, zero, suc, ◌-◌, ◌==◌, ◌<◌, ◌≤◌, Bool, true, false, ◌||◌, not, Result, Ok, Err, List, [], ◌∷◌, length, take, drop, get_or, nat_eq, arith, refl, ap, sym, ◌∙◌, append_assoc, append-nil}
use Rattle.std.proofs.lemmas.Bool.Decides.{nat_tests}
use Rattle.std.proofs.lemmas.List.Sums.{prefix_len-le-length, prefix_len_passes}
use Rattle.std.specs.List.{prefix_len}
use Rattle.base_fields.specs.declared.names.Pair.{Pair}
use Rattle.conf_lexer.specs.Text.{begins}
use Rattle.conf_words.specs.Values.{expansion, followed, part_len, part_value, parts_value}

pub followed_nil : (r : Result (List ℕ) (List ℕ)) → followed (Ok []) r ≡ r
followed_nil (Ok more) = refl
followed_nil (Err name) = refl

pub followed_twice : (xs : List ℕ) (q r : Result (List ℕ) (List ℕ)) → followed (Ok xs) (followed q r) ≡ followed (followed (Ok xs) q) r
followed_twice xs (Err name) r = refl
followed_twice xs (Ok ys) (Ok zs) = ap Ok (sym (append_assoc xs ys zs))
followed_twice xs (Ok ys) (Err name) = refl

-- the bytes of a part that are known to be of it
pub parts_skip : (vars : List Pair) (escapes : Bool) (n : ℕ) (rest : List ℕ) → n ≤ length rest → parts_value vars escapes n rest ≡ parts_value vars escapes 0 (drop n rest)
parts_skip vars escapes zero rest h = refl
parts_skip vars escapes (suc n) [] h = absurd (omega arith)
parts_skip vars escapes (suc n) (b ∷ rest) h = parts_skip vars escapes n rest (omega arith)

-- a part, and then the rest
pub part_first : (vars : List Pair) (escapes : Bool) (n : ℕ) (text : List ℕ) → n ≡ part_len escapes text → 0 < n → n ≤ length text → parts_value vars escapes 0 text ≡ followed (part_value vars escapes text) (parts_value vars escapes 0 (drop n text))
part_first vars escapes n [] e low high = absurd (omega arith)
part_first vars escapes zero (b ∷ rest) e low high = absurd (omega arith)
part_first vars escapes (suc n) (b ∷ rest) e low high =
    let one : suc n - 1 ≡ n = omega arith in
    ap (λ k. followed (part_value vars escapes (b ∷ rest)) (parts_value vars escapes (k - 1) rest)) (sym e) ∙ ap (λ k. followed (part_value vars escapes (b ∷ rest)) (parts_value vars escapes k rest)) one ∙ ap (followed (part_value vars escapes (b ∷ rest))) (parts_skip vars escapes n rest (omega arith))

-- neither a dollar nor a backslash
abbrev pub is_plain : ℕ → Bool
is_plain b = not (b == 36 || b == 92)

neither : (t u : Bool) → not (t || u) ≡ true → (t ≡ false) × (u ≡ false)
neither true u e = absurd (cc)
neither false true e = absurd (cc)
neither false false e = (refl, refl)

turned : (b c : ℕ) → (b == c) ≡ false → nat_eq c b ≡ false
turned b c e = grind (arith, nat_tests)

-- a text that begins with another byte
not_begun : (c : ℕ) (cs : List ℕ) (b : ℕ) (rest : List ℕ) → (b == c) ≡ false → begins (b ∷ rest) (c ∷ cs) ≡ false
not_begun c cs b rest e = rw (turned b c e) refl

plain_len : (escapes : Bool) (b : ℕ) (rest : List ℕ) → is_plain b ≡ true → part_len escapes (b ∷ rest) ≡ 1
plain_len true b rest e =
    let no = neither (b == 36) (b == 92) e in
    rw (not_begun 92 [] b rest no.1, not_begun 36 (123 ∷ []) b rest no.0) refl
plain_len false b rest e =
    let no = neither (b == 36) (b == 92) e in
    rw (not_begun 36 (123 ∷ []) b rest no.0) refl

plain_value : (vars : List Pair) (escapes : Bool) (b : ℕ) (rest : List ℕ) → is_plain b ≡ true → part_value vars escapes (b ∷ rest) ≡ Ok (b ∷ [])
plain_value vars true b rest e =
    let no = neither (b == 36) (b == 92) e in
    rw (not_begun 92 [] b rest no.1, not_begun 36 (123 ∷ []) b rest no.0) refl
plain_value vars false b rest e =
    let no = neither (b == 36) (b == 92) e in
    rw (not_begun 36 (123 ∷ []) b rest no.0) refl

-- bytes that are parts of their own, and then the rest
pub plain_first : (vars : List Pair) (escapes : Bool) (n : ℕ) (text : List ℕ) → n ≤ length text → ((k : ℕ) → k < n → is_plain (get_or text k 0) ≡ true) → parts_value vars escapes 0 text ≡ followed (Ok (take n text)) (parts_value vars escapes 0 (drop n text))
plain_first vars escapes zero text high plain = sym (followed_nil _)
plain_first vars escapes (suc n) [] high plain = absurd (omega arith)
plain_first vars escapes (suc n) (b ∷ rest) high plain =
    let this : is_plain b ≡ true = plain 0 (omega arith) in
    let len : part_len escapes (b ∷ rest) ≡ 1 = plain_len escapes b rest this in
    let value : part_value vars escapes (b ∷ rest) ≡ Ok (b ∷ []) = plain_value vars escapes b rest this in
    let first : parts_value vars escapes 0 (b ∷ rest) ≡ followed (part_value vars escapes (b ∷ rest)) (parts_value vars escapes 0 rest) = part_first vars escapes 1 (b ∷ rest) (sym len) (omega arith) (omega arith) in
    let more : parts_value vars escapes 0 rest ≡ followed (Ok (take n rest)) (parts_value vars escapes 0 (drop n rest)) = plain_first vars escapes n rest (omega arith) (λ k h. plain (suc k) (omega arith)) in
    first ∙ ap (λ v. followed v (parts_value vars escapes 0 rest)) value ∙ ap (followed (Ok (b ∷ []))) more ∙ followed_twice (b ∷ []) (Ok (take n rest)) _

-- the bytes before the first that isn't plain
pub plain_run : (vars : List Pair) (escapes : Bool) (n : ℕ) (text : List ℕ) → n ≡ prefix_len is_plain text → parts_value vars escapes 0 text ≡ followed (Ok (take n text)) (parts_value vars escapes 0 (drop n text))
plain_run vars escapes n text e =
    let most : prefix_len is_plain text ≤ length text = prefix_len-le-length is_plain text in
    plain_first vars escapes n text (omega arith) (λ k h. prefix_len_passes is_plain text k 0 (omega arith))

-- one more value of the whole text
pub more : (vars : List Pair) (escapes : Bool) (so_far : List ℕ) (value : Result (List ℕ) (List ℕ)) (n : ℕ) (whole rest : List ℕ) → expansion vars escapes whole ≡ followed (Ok so_far) (parts_value vars escapes 0 rest) → parts_value vars escapes 0 rest ≡ followed value (parts_value vars escapes 0 (drop n rest)) → expansion vars escapes whole ≡ followed (followed (Ok so_far) value) (parts_value vars escapes 0 (drop n rest))
more vars escapes so_far value n whole rest e f = e ∙ ap (followed (Ok so_far)) f ∙ followed_twice so_far value _

-- no rest
pub finished : (vars : List Pair) (escapes : Bool) (so_far : List ℕ) (whole rest : List ℕ) → expansion vars escapes whole ≡ followed (Ok so_far) (parts_value vars escapes 0 rest) → length rest ≡ 0 → expansion vars escapes whole ≡ Ok so_far
finished vars escapes so_far whole [] e h = e ∙ ap Ok (append-nil so_far)
finished vars escapes so_far whole (b ∷ rest) e h = absurd (omega arith)
