-- Runs of bytes that pass a test.
use Rattle.std.proofs.Common.{◌≡◌, ℕ, suc, ◌+◌, ◌≤◌, ◌≢◌, ◌==◌, ◌&&◌, Bool, true, false, not, nat_lt}
use Rattle.std.proofs.Common.{List, [], ◌∷◌, ◌++◌, length, reverse, Some, None, All, position, refl, ap, subst, sym, arith}
use Rattle.std.proofs.Common.{length-append, lt-ltb, le-leb, ne_eqb}
use Rattle.std.proofs.lemmas.Bool.{le-ltb}
use Rattle.std.proofs.lemmas.List.{reverse-append}
use Rattle.std.proofs.lemmas.Str.Parse.{digit_from_value}
use Rattle.std.specs.Char.{is_ascii_digit}
use Rattle.std.specs.List.{AllByRecursion, list_all, position_or_len, prefix_len}
use Rattle.std.specs.Str.Parse.{AllDigits}
use Rattle.bmap_grammar.specs.Text.{is_space}

-- each byte passes
abbrev pub Pass : (ℕ → Bool) → List ℕ → Type 0
Pass p bytes = AllByRecursion (λ b. p b ≡ true) bytes

pub pass_both : (p : ℕ → Bool) (front back : List ℕ) → Pass p front → Pass p back → Pass p (front ++ back)
pass_both p [] back f b = b
pass_both p (x ∷ front) back f b = (f.0, pass_both p front back f.1 b)

pub pass_so : (p q : ℕ → Bool) (bytes : List ℕ) → ((b : ℕ) → p b ≡ true → q b ≡ true) → Pass p bytes → Pass q bytes
pass_so p q [] so h = tt
pass_so p q (b ∷ bytes) so h = (so b h.0, pass_so p q bytes so h.1)

pub pass_reverse : (p : ℕ → Bool) (bytes : List ℕ) → Pass p bytes → Pass p (reverse bytes)
pass_reverse p [] h = tt
pass_reverse p (b ∷ bytes) h =
    subst (Pass p) (sym (reverse-append (b ∷ []) bytes))
    (pass_both p (reverse bytes) (b ∷ []) (pass_reverse p bytes h.1) (h.0, tt))

-- ---- how far the test passes

pub run_on : (p : ℕ → Bool) (front back : List ℕ) → Pass p front →
    prefix_len p (front ++ back) ≡ length front + prefix_len p back
run_on p [] back h = omega arith
run_on p (b ∷ front) back h = let more = run_on p front back h.1 in rw h.0 (omega (arith, more))

pub run_ends : (p : ℕ → Bool) (front : List ℕ) (b : ℕ) (back : List ℕ) → Pass p front → p b ≡ false →
    prefix_len p (front ++ b ∷ back) ≡ length front
run_ends p front b back h e =
    let none : prefix_len p (b ∷ back) ≡ 0 = rw e refl in
    let on = run_on p front (b ∷ back) h in
    omega (arith, on, none)

pub run_all : (p : ℕ → Bool) (bytes : List ℕ) → Pass p bytes → prefix_len p bytes ≡ length bytes
run_all p [] h = refl
run_all p (b ∷ bytes) h = let more = run_all p bytes h.1 in rw h.0 (omega (arith, more))

-- where the first byte doesn't pass
pub no_run : (p q : ℕ → Bool) (bytes : List ℕ) → ((b : ℕ) → q b ≡ true → p b ≡ false) → Pass q bytes →
    prefix_len p bytes ≡ 0
no_run p q [] so h = refl
no_run p q (b ∷ bytes) so h = rw (so b h.0) refl

-- ---- where a byte stands

abbrev pub other : (ℕ → Bool) → ℕ → Bool
other p b = not (p b)

pub found : (p : ℕ → Bool) (front : List ℕ) (b : ℕ) (back : List ℕ) → Pass (other p) front → p b ≡ true →
    position p (front ++ b ∷ back) ≡ Some (length front)
found p front b back h e =
    let at : position_or_len p (front ++ b ∷ back) ≡ length front = run_ends (other p) front b back h (ap not e) in
    let long = length-append front (b ∷ back) in
    let within : nat_lt (length front) (length (front ++ b ∷ back)) ≡ true =
    lt-ltb (length front) (length (front ++ b ∷ back)) (omega (arith, long)) in
    rw at (rw within refl)

pub not_found : (p : ℕ → Bool) (bytes : List ℕ) → Pass (other p) bytes → position p bytes ≡ None
not_found p bytes h =
    let at : position_or_len p bytes ≡ length bytes = run_all (other p) bytes h in
    let none : nat_lt (length bytes) (length bytes) ≡ false = le-ltb (length bytes) (length bytes) (omega arith) in
    rw at (rw none refl)

-- ---- the bytes of values: neither white space nor `<`

abbrev pub is_plain : ℕ → Bool
is_plain b = not (is_space b) && not (b == 60)

pub plain_space : (b : ℕ) → is_plain b ≡ true → is_space b ≡ false
plain_space b h = grind arith

pub plain_inside : (b : ℕ) → is_plain b ≡ true → not (b == 60) ≡ true
plain_inside b h = grind arith

pub above_plain : (b : ℕ) → 33 ≤ b → b ≢ 60 → is_plain b ≡ true
above_plain b h n =
    rw (
      ne_eqb b 32 (omega arith),
      ne_eqb b 9 (omega arith),
      ne_eqb b 10 (omega arith),
      ne_eqb b 13 (omega arith),
      ne_eqb b 60 n,
    ) refl

-- ---- digits

pub digits_pass : (p : ℕ → Bool) (digits : List ℕ) → ((b : ℕ) → 48 ≤ b → b ≤ 57 → p b ≡ true) → AllDigits 10 digits →
    Pass p digits
digits_pass p [] so h = tt
digits_pass p (b ∷ digits) so h =
    let k = digit_from_value b h.0 in
    (so b k.0 k.1, digits_pass p digits so h.1)

pub digits_plain : (digits : List ℕ) → AllDigits 10 digits → Pass is_plain digits
digits_plain digits h = digits_pass is_plain digits (λ b low high. above_plain b (omega arith) (omega arith)) h

digit_passes : (b : ℕ) → 48 ≤ b → b ≤ 57 → is_ascii_digit b ≡ true
digit_passes b low high = rw (le-leb 48 b low, le-leb b 57 high) refl

pub all_pass : (p : ℕ → Bool) (bytes : List ℕ) → Pass p bytes → list_all p bytes ≡ true
all_pass p [] h = refl
all_pass p (b ∷ bytes) h = rw (h.0, all_pass p bytes h.1) refl

pub digits_all : (digits : List ℕ) → AllDigits 10 digits → list_all is_ascii_digit digits ≡ true
digits_all digits h = all_pass is_ascii_digit digits (digits_pass is_ascii_digit digits digit_passes h)

-- ---- elements by number and one by one

pub pass_from_all : (p q : ℕ → Bool) (bytes : List ℕ) → ((b : ℕ) → q b ≡ true → p b ≡ true) →
    All (λ b. q b ≡ true) bytes → Pass p bytes
pass_from_all p q [] so h = tt
pass_from_all p q (b ∷ bytes) so h =
    (so b (h 0 b (omega arith)), pass_from_all p q bytes so (λ k d within. h (suc k) d (omega (arith, within))))
