-- The least multiple of a number that isn't below another.
use Rattle.std.proofs.Common.{◌≡◌, ℕ, ◌+◌, ◌-◌, ◌*◌, ◌/◌, ◌%◌, ◌<◌, ◌≤◌, arith, mul-le-mul_right}
use Rattle.std.proofs.Math.Nat.{lt_of_mul-lt-mul_right, mul-mod_left}
use Rattle.std.proofs.lemmas.Nat.{div-add-mod', mod_below}
use Rattle.base_fields.specs.Numbers.{IsLeastMultiple}
use Rattle.placement_rules.specs.Places.{least_multiple}

-- of two multiples, one that lies below the other and one more is not above it
quotients : (a b to : ℕ) → a * to < b * to + to → a * to ≤ b * to
quotients a b to h =
    let less : a < b + 1 = lt_of_mul-lt-mul_right to (omega arith) in
    mul-le-mul_right to (omega arith)

-- it lies from n on, and below n and `to`
pub least_near : (n to : ℕ) → 1 ≤ to → (n ≤ least_multiple to n) × (least_multiple to n < n + to)
least_near n to some =
    let q : (n + (to - 1)) / to * to + (n + (to - 1)) % to ≡ n + (to - 1) = div-add-mod' (n + (to - 1)) to in
    let r : (n + (to - 1)) % to < to = mod_below (n + (to - 1)) to (omega arith) in
    (omega arith, omega arith)

pub least_whole : (n to : ℕ) → least_multiple to n % to ≡ 0
least_whole n to = mul-mod_left ((n + (to - 1)) / to) to

-- it is the one that `round_up` answers
pub is_least : (n to : ℕ) → 1 ≤ to → IsLeastMultiple n to (least_multiple to n)
is_least n to some =
    let near : (n ≤ least_multiple to n) × (least_multiple to n < n + to) = least_near n to some in
    record {
      multiple = least_whole n to;
      not_below = near.0;
      least = λ m multiple above.
          let k : m / to * to + m % to ≡ m = div-add-mod' m to in
          let le : (n + (to - 1)) / to * to ≤ m / to * to = quotients ((n + (to - 1)) / to) (m / to) to (omega arith) in
          omega arith;
    }

pub rounded : (n to r : ℕ) → 1 ≤ to → IsLeastMultiple n to r → r ≡ least_multiple to n
rounded n to r some is =
    let own : IsLeastMultiple n to (least_multiple to n) = is_least n to some in
    let le : r ≤ least_multiple to n = is.least (least_multiple to n) own.multiple own.not_below in
    let ge : least_multiple to n ≤ r = own.least r is.multiple is.not_below in
    omega arith
