-- The least multiple that isn't below a number, and the greatest one that isn't above it.
use Rattle.std.specs.Prelude.{◌≡◌, ℕ, ◌+◌, ◌-◌, ◌*◌, ◌/◌, ◌%◌, ◌<◌, ◌≤◌}
use Rattle.std.proofs.Common.{arith, mul-le-mul_right}
use Rattle.std.proofs.Math.Nat.{lt_of_mul-lt-mul_right, mul-mod_left}
use Rattle.std.proofs.lemmas.Nat.{div-add-mod', mod_below}
use Rattle.base_fields.specs.Numbers.{IsLeastMultiple}
use Rattle.placement_rules.specs.Places.{least_multiple}
use Rattle.placement_laws.specs.Placed.{IsGreatestMultiple}

-- of two multiples, one that lies below the other and one more isn't above it
quotients : (a b to : ℕ) → a * to < b * to + to → a * to ≤ b * to
quotients a b to h =
    let less : a < b + 1 = lt_of_mul-lt-mul_right to (omega arith) in
    mul-le-mul_right to (omega arith)

pub least_of : (n to : ℕ) → 1 ≤ to → IsLeastMultiple n to (least_multiple to n)
least_of n to some =
    let q : (n + (to - 1)) / to * to + (n + (to - 1)) % to ≡ n + (to - 1) = div-add-mod' (n + (to - 1)) to in
    let rest : (n + (to - 1)) % to < to = mod_below (n + (to - 1)) to (omega arith) in
    record {
      multiple = mul-mod_left ((n + (to - 1)) / to) to;
      not_below = omega arith;
      least = λ m whole above.
          let k : m / to * to + m % to ≡ m = div-add-mod' m to in
          let le : (n + (to - 1)) / to * to ≤ m / to * to = quotients ((n + (to - 1)) / to) (m / to) to (omega arith) in
          omega arith;
    }

pub least_one : (n to a b : ℕ) → IsLeastMultiple n to a → IsLeastMultiple n to b → a ≡ b
least_one n to a b first second =
    let below : a ≤ b = first.least b second.multiple second.not_below in
    let above : b ≤ a = second.least a first.multiple first.not_below in
    omega arith

pub greatest_of : (n to : ℕ) → 1 ≤ to → IsGreatestMultiple n to (n / to * to)
greatest_of n to some =
    let q : n / to * to + n % to ≡ n = div-add-mod' n to in
    let rest : n % to < to = mod_below n to (omega arith) in
    record {
      multiple = mul-mod_left (n / to) to;
      not_above = omega arith;
      greatest = λ m whole below.
          let k : m / to * to + m % to ≡ m = div-add-mod' m to in
          let le : m / to * to ≤ n / to * to = quotients (m / to) (n / to) to (omega arith) in
          omega arith;
    }

pub greatest_one : (n to a b : ℕ) → IsGreatestMultiple n to a → IsGreatestMultiple n to b → a ≡ b
greatest_one n to a b first second =
    let above : b ≤ a = first.greatest b second.multiple second.not_above in
    let below : a ≤ b = second.greatest a first.multiple first.not_above in
    omega arith
