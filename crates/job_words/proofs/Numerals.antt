-- What `parse` reads of digits is the numeral of the definition.
use Rattle.std.proofs.Common.{◌≡◌, ◌&&◌, ◌<◌, ◌≤◌, ◌^◌, ℕ, Bool, cond, true, false, [], ◌∷◌, length, Some, None, Result, Ok, Err, ap, refl, arith, le-leb, lt-ltb, leb-true, ltb-true}
use Rattle.std.specs.Result.{result_ok}
use Rattle.std.specs.Char.{is_ascii_digit}
use Rattle.std.specs.List.{list_all}
use Rattle.std.specs.Str.{all_ascii_digits}
use Rattle.std.specs.Str.Parse.{ParsesUnsigned, digits_value}
use Rattle.std.specs.Result.{OkIff}
use Rattle.std.proofs.lemmas.Str.Parse.{IsNumeralModel, numerals_by_value, parse_digits, tells_all_ascii_digits}
use Rattle.clap.specs.Walk.{Text}
use Rattle.job_words.specs.Arguments.{is_numeral, numeral_of}

own : IsNumeralModel (λ ds. all_ascii_digits ds ≡ true) (digits_value 10)
own = numerals_by_value _ tells_all_ascii_digits

same_test : (t : Text) → list_all is_ascii_digit t ≡ all_ascii_digits t
same_test [] = refl
same_test (c ∷ cs) = ap (λ b. is_ascii_digit c && b) (same_test cs)

both : (a b : Bool) → (a && b) ≡ true → (a ≡ true) × (b ≡ true)
both true b e = (refl, e)
both false b e = absurd (bad e)
  where
    bad : false ≡ true → ⊥
    bad e = cc

numeral_fits : (t : Text) → is_numeral t ≡ true → (0 < length t) × (digits_value 10 t < 2 ^ 64)
numeral_fits t e =
    let one = both _ _ e in
    let two = both _ _ one.1 in
    let three = both _ _ two.1 in
    (leb-true 1 (length t) two.0, ltb-true _ _ three.1)

fits_numeral : (t : Text) → list_all is_ascii_digit t ≡ true → length t ≤ 20 → 0 < length t → digits_value 10 t < 2 ^ 64
    → is_numeral t ≡ true
fits_numeral t digits short some fits =
    let least : 1 ≤ length t = omega arith in
    rw (digits, le-leb 1 (length t) least, le-leb (length t) 20 short, lt-ltb (digits_value 10 t) (2 ^ 64) fits) refl

pub parsed : {E : Type 0} (t : Text) (r : Result ℕ E) → length t ≤ 20 → list_all is_ascii_digit t ≡ true
    → ParsesUnsigned 64 10 t r → result_ok r ≡ numeral_of t
parsed {E} t r short digits gives = go r (parse_digits own 64 t r gives (rw (← same_test t) digits))
  where
    go : (q : Result ℕ E) → OkIff q ((0 < length t) × (digits_value 10 t < 2 ^ 64)) (digits_value 10 t) → result_ok q ≡ numeral_of t
    go (Ok x) h = rw (fits_numeral t digits short h.0.0 h.0.1, h.1) refl
    go (Err e) h = at (is_numeral t) refl
      where
        at : (b : Bool) → is_numeral t ≡ b → None ≡ cond b (Some (digits_value 10 t)) None
        at true is = absurd (h (numeral_fits t is))
        at false is = refl
