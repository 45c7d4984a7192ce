-- Reading a number digit by digit.
use Rattle.std.proofs.Common.{◌≡◌, ℕ, ◌+◌, ◌*◌, ◌^◌, ◌<◌, ◌≤◌, List, length, take, get_or, Some, None, refl, lt-ltb, arith}
use Rattle.std.proofs.lemmas.List.{take_all}
use Rattle.std.proofs.lemmas.Int.Digits.{digits_value_more}
use Rattle.std.proofs.lemmas.Str.Parse.{digits_value-take-le}
use Rattle.std.specs.Char.{digit_value}
use Rattle.std.specs.Str.Parse.{digits_value}
use Rattle.conf_values.specs.Values.{small_value}

small_value_past : (radix : ℕ) (digits : List ℕ) → 2 ^ 64 ≤ digits_value radix digits → None ≡ small_value radix digits
small_value_past radix digits h = grind arith

-- the number of one digit more
pub one_more : (radix : ℕ) (digits : List ℕ) (i value : ℕ) → i < length digits → value ≡ digits_value radix (take i digits)
    → value * radix + digit_value (get_or digits i 0) ≡ digits_value radix (take (i + 1) digits)
one_more radix digits i value within is = rw (digits_value_more radix digits i within, is) refl

-- the front with one digit more is too great already
pub small_value_more : (radix : ℕ) (digits : List ℕ) (i value : ℕ) → 1 ≤ radix → i < length digits
    → value ≡ digits_value radix (take i digits) → 2 ^ 64 ≤ value * radix + digit_value (get_or digits i 0)
    → None ≡ small_value radix digits
small_value_more radix digits i value some within is past =
    let more = one_more radix digits i value within is in
    let front : digits_value radix (take (i + 1) digits) ≤ digits_value radix digits = digits_value-take-le radix digits (i + 1) some in
    small_value_past radix digits (omega arith)

-- all digits
pub small_value_all : (radix : ℕ) (digits : List ℕ) (i value : ℕ) → length digits ≤ i → value < 2 ^ 64
    → value ≡ digits_value radix (take i digits) → Some value ≡ small_value radix digits
small_value_all radix digits i value all fits is =
    let whole : value ≡ digits_value radix digits = rw take_all at is in
    rw (← whole) (rw (lt-ltb value (2 ^ 64) fits) refl)
