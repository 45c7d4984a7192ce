-- The least multiple of a number that isn't below another.
use Rattle.std.proofs.Common.{◌≡◌, ℕ, ◌+◌, ◌-◌, ◌*◌, ◌/◌, ◌%◌, ◌<◌, ◌≤◌, ◌≢◌, inl, inr, ap, ◌∙◌, add-zero, arith, mul-le-mul_right}
use Rattle.std.proofs.Math.Nat.{lt_of_mul-lt-mul_right, mod-eq_of_lt, mod_self, mul-mod_left, sub-zero}
use Rattle.std.proofs.lemmas.Nat.{div-add-mod', mod_below}
use Rattle.std.proofs.lemmas.Bool.{cases_lt}
use Rattle.std.specs.Int.{next_multiple_of}
use Rattle.base_fields.specs.Numbers.{IsLeastMultiple}

-- of two multiples, one that lies below the other and one more is not above it
quotients : (a b to : ℕ) → a * to < b * to + to → a * to ≤ b * to
quotients a b to h =
    let less : a < b + 1 = lt_of_mul-lt-mul_right to (omega arith) in
    mul-le-mul_right to (omega arith)

pub least_multiple : (n to r : ℕ) → to ≢ 0 → n ≤ r → r < n + to → r % to ≡ 0 → IsLeastMultiple n to r
least_multiple n to r nonzero low high whole = record {
  multiple = whole;
  not_below = low;
  least = λ m multiple above.
      let q : r / to * to + r % to ≡ r = div-add-mod' r to in
      let k : m / to * to + m % to ≡ m = div-add-mod' m to in
      let near : r / to * to < m / to * to + to = omega arith in
      let le : r / to * to ≤ m / to * to = quotients (r / to) (m / to) to near in
      omega arith;
}

-- the next multiple, by its properties
next : (n to : ℕ) → to ≢ 0 → (next_multiple_of n to < n + to) × (next_multiple_of n to % to ≡ 0)
next n to nonzero =
    elim (cases_lt 0 (n % to)) [
      | inl above ↦
          let small : n % to < to = mod_below n to (omega arith) in
          let rest : (to - n % to) % to ≡ to - n % to = mod-eq_of_lt (omega arith) in
          let whole : n + (to - n % to) ≡ (n / to + 1) * to = omega (arith, div-add-mod' n to) in
          (omega arith, ap (λ (d : ℕ). (n + d) % to) rest ∙ ap (λ (r : ℕ). r % to) whole ∙ mul-mod_left (n / to + 1) to)
      | inr none ↦
          let divides : n % to ≡ 0 = omega arith in
          let rest : (to - n % to) % to ≡ 0 = ap (λ (r : ℕ). (to - r) % to) divides ∙ ap (λ (r : ℕ). r % to) (sub-zero to) ∙ mod_self to in
          (omega arith, ap (λ (d : ℕ). (n + d) % to) rest ∙ ap (λ (r : ℕ). r % to) (add-zero n) ∙ divides)
    ]

-- the next multiple fits where some multiple that isn't below does
pub fits_below : (n to g : ℕ) → to ≢ 0 → n ≤ g * to → next_multiple_of n to ≤ g * to
fits_below n to g nonzero h =
    let whole : next_multiple_of n to / to * to + next_multiple_of n to % to ≡ next_multiple_of n to = div-add-mod' (next_multiple_of n to) to in
    let facts : (next_multiple_of n to < n + to) × (next_multiple_of n to % to ≡ 0) = next n to nonzero in
    let le : next_multiple_of n to / to * to ≤ g * to = quotients (next_multiple_of n to / to) g to (omega arith) in
    omega arith
