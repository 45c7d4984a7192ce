-- The test of UTF-8 answers as the bytes are.
use Rattle.std.proofs.Common.{◌≡◌, ℕ, ◌<◌, Bool, true, false, ◌&&◌, ◌||◌, List, [], ◌∷◌, nat_lt, arith, refl}
use Rattle.std.proofs.lemmas.Bool.Decides.{nat_tests}
use Rattle.std.proofs.lemmas.Str.Ascii.{IsAscii-cons, IsAscii-nil}
use Rattle.std.proofs.lemmas.Str.{IsUtf8-from_ascii, IsUtf8-from_is_utf8, is_utf8-from_IsUtf8}
use Rattle.std.specs.List.{list_all}
use Rattle.std.specs.Str.{IsAscii, IsUtf8, is_utf8}
use Rattle.conf_lexer.specs.Text.{is_text}

both_hold : (t u : Bool) → (t && u) ≡ true → (t ≡ true) × (u ≡ true)
both_hold true u e = (refl, e)
both_hold false u e = absurd (cc)

low_bytes : (bytes : List ℕ) → list_all (λ b. nat_lt b 128) bytes ≡ true → IsAscii bytes
low_bytes [] e = IsAscii-nil
low_bytes (b ∷ bytes) e =
    let tests = both_hold (nat_lt b 128) (list_all (λ b. nat_lt b 128) bytes) e in
    let test : nat_lt b 128 ≡ true = tests.0 in
    let low : b < 128 = grind (arith, nat_tests) in
    IsAscii-cons b bytes low (low_bytes bytes tests.1)

one_of : (bytes : List ℕ) (t u : Bool) → (t ≡ true → IsUtf8 bytes) → (u ≡ true → IsUtf8 bytes) → (t || u) ≡ true → IsUtf8 bytes
one_of bytes true u f g e = f refl
one_of bytes false u f g e = g e

pub text_utf8 : (bytes : List ℕ) → is_text bytes ≡ true → IsUtf8 bytes
text_utf8 bytes e = one_of bytes (list_all (λ b. nat_lt b 128) bytes) (is_utf8 bytes) (λ h. IsUtf8-from_ascii bytes (low_bytes bytes h)) (IsUtf8-from_is_utf8 bytes) e

or_last : (t u : Bool) → u ≡ true → true ≡ (t || u)
or_last true u e = refl
or_last false u e = cc

pub utf8_yes : (bytes : List ℕ) → IsUtf8 bytes → true ≡ is_text bytes
utf8_yes bytes h = or_last (list_all (λ b. nat_lt b 128) bytes) (is_utf8 bytes) (is_utf8-from_IsUtf8 bytes h)

test_fails : (bytes : List ℕ) (test : Bool) → (test ≡ true → IsUtf8 bytes) → ¬ (IsUtf8 bytes) → false ≡ test
test_fails bytes true had h = absurd (h (had refl))
test_fails bytes false had h = refl

pub utf8_no : (bytes : List ℕ) → ¬ (IsUtf8 bytes) → false ≡ is_text bytes
utf8_no bytes h = test_fails bytes (is_text bytes) (text_utf8 bytes) h
