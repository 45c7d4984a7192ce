-- Reading a number digit by digit.
use Rattle.std.proofs.Common.{◌≡◌, ℕ, ◌+◌, ◌*◌, ◌^◌, ◌<◌, ◌≤◌, List, length, take, get_or, Some, None, refl, lt-ltb, lit≤, arith}
use Rattle.std.proofs.lemmas.List.{take_all}
use Rattle.std.proofs.lemmas.Int.Digits.{digits_value_more}
use Rattle.std.proofs.lemmas.Str.Parse.{digits_value-take-le}
use Rattle.std.specs.Char.{digit_value}
use Rattle.std.specs.Str.Parse.{digits_value}
use Rattle.bmap_grammar.specs.Text.{small_value}

small_value_past : (digits : List ℕ) → 2 ^ 64 ≤ digits_value 10 digits → None ≡ small_value digits
small_value_past digits h = grind arith

-- the number of one digit more
pub one_more : (digits : List ℕ) (i value : ℕ) → i < length digits → value ≡ digits_value 10 (take i digits)
    → value * 10 + digit_value (get_or digits i 0) ≡ digits_value 10 (take (i + 1) digits)
one_more digits i value within is = rw (digits_value_more 10 digits i within, is) refl

-- the front with one digit more is too great already
pub small_value_more : (digits : List ℕ) (i value : ℕ) → i < length digits
    → value ≡ digits_value 10 (take i digits) → 2 ^ 64 ≤ value * 10 + digit_value (get_or digits i 0)
    → None ≡ small_value digits
small_value_more digits i value within is past =
    let more = one_more digits i value within is in
    let front : digits_value 10 (take (i + 1) digits) ≤ digits_value 10 digits = digits_value-take-le 10 digits (i + 1) (lit≤ tt) in
    small_value_past digits (omega arith)

-- all digits
pub small_value_all : (digits : List ℕ) (i value : ℕ) → length digits ≤ i → value < 2 ^ 64
    → value ≡ digits_value 10 (take i digits) → Some value ≡ small_value digits
small_value_all digits i value all fits is =
    let whole : value ≡ digits_value 10 digits = rw take_all at is in
    rw (← whole) (rw (lt-ltb value (2 ^ 64) fits) refl)
