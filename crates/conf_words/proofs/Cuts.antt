-- Where a text may be cut: before a byte below 128, and behind one.
use Rattle.std.proofs.Common.{◌≡◌, ℕ, zero, suc, ◌+◌, ◌-◌, ◌==◌, ◌<◌, ◌≤◌, Bool, true, false, ◌&&◌, ◌||◌, not, Some, None, List, [], ◌∷◌, length, drop, codes, get_or, if◌then◌else◌, nat_lt, arith, refl, sym, subst, ◌∙◌, get_or-drop, eqb-true}
use Rattle.std.proofs.lemmas.Bool.Decides.{nat_tests}
use Rattle.std.proofs.lemmas.List.Sums.{prefix_len-le-length, prefix_len_passes, prefix_len_stops}
use Rattle.std.proofs.lemmas.Str.{IsCharBoundary-after_ascii, IsCharBoundary-before_ascii, IsCharBoundary-start}
use Rattle.std.specs.List.{position, prefix_len}
use Rattle.std.specs.Str.{IsCharBoundary, IsUtf8}
use Rattle.conf_lexer.proofs.Behind.{given}
use Rattle.conf_lexer.proofs.Within.{later_given}
use Rattle.conf_lexer.specs.Text.{begins, behind_dollar, behind_name, is_letter, is_name_byte, later, name_len, through, variable_len}

-- behind the bytes that pass, where each that fails is below 128
pub cut_before : (p : ℕ → Bool) (bs : List ℕ) → ((b : ℕ) → p b ≡ false → b < 128) → IsCharBoundary bs (prefix_len p bs)
cut_before p bs low = (prefix_len-le-length p bs, λ h high. let first : get_or bs (prefix_len p bs) 0 < 128 = low _ (prefix_len_stops p bs 0 h) in absurd (omega arith))

cut_behind_n : (p : ℕ → Bool) (bs : List ℕ) (n : ℕ) → n ≡ prefix_len p bs → IsUtf8 bs → ((b : ℕ) → p b ≡ true → b < 128) → IsCharBoundary bs n
cut_behind_n p bs zero e u low = IsCharBoundary-start bs u
cut_behind_n p bs (suc n) e u low =
    let most : prefix_len p bs ≤ length bs = prefix_len-le-length p bs in
    let last : get_or bs n 0 < 128 = low _ (prefix_len_passes p bs n 0 (omega arith)) in
    let sum : n + 1 ≡ suc n = omega arith in
    let at : IsCharBoundary bs (n + 1) = IsCharBoundary-after_ascii bs n u (omega arith) last in
    rw sum at at

-- behind the bytes that pass, where each of them is below 128
pub cut_behind : (p : ℕ → Bool) (bs : List ℕ) → IsUtf8 bs → ((b : ℕ) → p b ≡ true → b < 128) → IsCharBoundary bs (prefix_len p bs)
cut_behind p bs u low = cut_behind_n p bs (prefix_len p bs) refl u low

-- so many bytes, the last of which is a closing brace
abbrev pub Closed : List ℕ → ℕ → Type 0
Closed s n = (0 < n) × (get_or s (n - 1) 0 ≡ 125)

closed_later : (s : List ℕ) (m j n : ℕ) → Closed (drop m s) j → m + j ≡ n → Closed s n
closed_later s m j n h e =
    let at : m + (j - 1) ≡ n - 1 = omega arith in
    let there : get_or s (m + (j - 1)) 0 ≡ 125 = sym (get_or-drop m s (j - 1) 0) ∙ h.1 in
    (omega arith, rw at at there)

chosen_place : (t : Bool) (m n : ℕ) → (if t then Some m else None) ≡ Some n → (t ≡ true) × (m ≡ n)
chosen_place true m n e = (refl, cc)
chosen_place false m n e = absurd (cc)

not_false : (t : Bool) → not t ≡ false → t ≡ true
not_false true e = refl
not_false false e = absurd (cc)

through_closed : (s : List ℕ) (n : ℕ) → through 125 s ≡ Some n → Closed s n
through_closed s n e =
    let r = later_given 1 (position (λ b. b == 125) s) n e in
    let found = chosen_place (nat_lt (prefix_len (λ b. not (b == 125)) s) (length s)) (prefix_len (λ b. not (b == 125)) s) r.0 r.1.0 in
    let test : nat_lt (prefix_len (λ b. not (b == 125)) s) (length s) ≡ true = found.0 in
    let low : prefix_len (λ b. not (b == 125)) s < length s = grind (arith, nat_tests) in
    let is : get_or s (prefix_len (λ b. not (b == 125)) s) 0 ≡ 125 = eqb-true _ 125 (not_false _ (prefix_len_stops (λ b. not (b == 125)) s 0 low)) in
    let sum : 1 + r.0 ≡ n = r.1.1 in
    let same : prefix_len (λ b. not (b == 125)) s ≡ n - 1 = let f : prefix_len (λ b. not (b == 125)) s ≡ r.0 = found.1 in omega arith in
    (omega arith, rw same at is)

brace_closed : (s : List ℕ) → begins s (codes "}") ≡ true → Closed s 1
brace_closed [] e = absurd (cc)
brace_closed (b ∷ s) e = (omega arith, grind (arith, nat_tests))

name_closed : (s : List ℕ) (n : ℕ) → behind_name s ≡ Some n → Closed s n
name_closed s n e =
    given (begins s (codes "}")) (Some 1) (if begins s (codes ":-") then later 2 (through 125 (drop 2 s)) else None) n
    (λ h f. let one : 1 ≡ n = cc in let closed : Closed s 1 = brace_closed s h in subst (λ (k : ℕ). Closed s k) one closed)
    (λ _ f. given (begins s (codes ":-")) (later 2 (through 125 (drop 2 s))) None n
    (λ _ g. let r = later_given 2 (through 125 (drop 2 s)) n g in closed_later s 2 r.0 n (through_closed (drop 2 s) r.0 r.1.0) r.1.1)
    (λ _ g. absurd (cc)) f)
    e

dollar_closed : (s : List ℕ) (n : ℕ) → behind_dollar s ≡ Some n → Closed s n
dollar_closed s n e =
    given (name_len s == 0) None (later (name_len s) (behind_name (drop (name_len s) s))) n
    (λ _ f. absurd (cc))
    (λ _ f. let r = later_given (name_len s) (behind_name (drop (name_len s) s)) n f in closed_later s (name_len s) r.0 n (name_closed (drop (name_len s) s) r.0 r.1.0) r.1.1)
    e

-- a variable ends in a closing brace
pub variable_closed : (s : List ℕ) (n : ℕ) → variable_len s ≡ Some n → Closed s n
variable_closed s n e =
    let r = later_given 2 (behind_dollar (drop 2 s)) n e in
    closed_later s 2 r.0 n (dollar_closed (drop 2 s) r.0 r.1.0) r.1.1

-- behind a byte below 128 at the front of so many
pub cut_after : (bs : List ℕ) (n : ℕ) → IsUtf8 bs → 0 < n → n ≤ length bs → get_or bs (n - 1) 0 < 128 → IsCharBoundary bs n
cut_after bs n u low high last =
    let sum : n - 1 + 1 ≡ n = omega arith in
    let at : IsCharBoundary bs (n - 1 + 1) = IsCharBoundary-after_ascii bs (n - 1) u (omega arith) last in
    rw sum at at

pub variable_cut : (bs : List ℕ) (n : ℕ) → IsUtf8 bs → variable_len bs ≡ Some n → n ≤ length bs → IsCharBoundary bs n
variable_cut bs n u e high =
    let end = variable_closed bs n e in
    let last : get_or bs (n - 1) 0 ≡ 125 = end.1 in
    cut_after bs n u end.0 high (omega arith)

no_byte : (t : Bool) → (t && false) ≡ true → ⊥
no_byte true e = cc
no_byte false e = cc

second_begun : (x y u v : ℕ) (s : List ℕ) → begins (x ∷ y ∷ s) (u ∷ v ∷ []) ≡ true → y ≡ v
second_begun x y u v s e = grind (arith, nat_tests)

two_begun : (s : List ℕ) (u v : ℕ) → begins s (u ∷ v ∷ []) ≡ true → (2 ≤ length s) × (get_or s 1 0 ≡ v)
two_begun [] u v e = absurd (cc)
two_begun (x ∷ []) u v e = absurd (no_byte _ e)
two_begun (x ∷ y ∷ s) u v e = (omega arith, second_begun x y u v s e)

-- two bytes, of which the second is below 128
pub cut_two : (s : List ℕ) (u v : ℕ) → IsUtf8 s → v < 128 → begins s (u ∷ v ∷ []) ≡ true → IsCharBoundary s 2
cut_two s u v utf8 low e =
    let is = two_begun s u v e in
    let second : get_or s 1 0 ≡ v = is.1 in
    cut_after s 2 utf8 (omega arith) is.0 (omega arith)

name_byte_low : (b : ℕ) → is_name_byte b ≡ true → b < 128
name_byte_low b e = grind (arith, nat_tests)

-- behind a name
pub name_cut : (bs : List ℕ) → IsUtf8 bs → IsCharBoundary bs (name_len bs)
name_cut [] u = IsCharBoundary-start [] u
name_cut (b ∷ rest) u = elim (is_letter b) as (λ t. IsCharBoundary (b ∷ rest) (if t then prefix_len is_name_byte (b ∷ rest) else 0)) [ true ↦ cut_behind is_name_byte (b ∷ rest) u name_byte_low | false ↦ IsCharBoundary-start (b ∷ rest) u ]

-- where the bytes that pass end
pub brace_low : (b : ℕ) → not (b == 125) ≡ false → b < 128
brace_low b e = let is : b ≡ 125 = eqb-true b 125 (not_false _ e) in omega arith

pub special_low : (b : ℕ) → not (b == 36 || b == 92) ≡ false → b < 128
special_low b e = grind (arith, nat_tests)

-- before a quote at the end
pub cut_last : (bs : List ℕ) (n : ℕ) → n + 1 ≡ length bs → get_or bs n 0 < 128 → IsCharBoundary bs n
cut_last bs n e low = IsCharBoundary-before_ascii bs n (omega arith) low
