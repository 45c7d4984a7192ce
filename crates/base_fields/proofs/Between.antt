-- Tests for numbers between two others, and what they say.
use Rattle.std.specs.Prelude.{◌≡◌, ℕ, Bool, true, false, ◌&&◌, nat_le}
use Rattle.std.proofs.Common.{refl, arith}
use Rattle.std.specs.Int.{is_power_of_two}
use Rattle.std.proofs.lemmas.Bool.{leb-true}
use Rattle.std.proofs.lemmas.Bool.Decides.{nat_tests}
use Rattle.std.specs.Cmp.Derive.{both_true}
use Rattle.base_fields.specs.Numbers.{IsBetween, IsPowerBetween, is_between, is_power_between}

-- the two tests of a pair that passes
pub both : (a b : Bool) → (a && b) ≡ true → (a ≡ true) × (b ≡ true)
both true b h = (refl, h)
both false b h = absurd (cc)

pub between_gives : (least most n : ℕ) → is_between least most n ≡ true → IsBetween least most n
between_gives least most n h =
    let tests = both (nat_le least n) (nat_le n most) h in
    (leb-true least n tests.0, leb-true n most tests.1)

pub between_passes : (least most n : ℕ) → IsBetween least most n → is_between least most n ≡ true
between_passes least most n h = grind (arith, nat_tests)

pub power_between_gives : (least most n : ℕ) → is_power_between least most n ≡ true → IsPowerBetween least most n
power_between_gives least most n h =
    let tests = both (is_power_of_two n) (is_between least most n) h in
    let bounds = between_gives least most n tests.1 in
    record { power = tests.0; not_below = bounds.0; not_above = bounds.1 }

pub power_between_passes : (least most n : ℕ) → IsPowerBetween least most n → is_power_between least most n ≡ true
power_between_passes least most n h = both_true h.power (between_passes least most n (h.not_below, h.not_above))
