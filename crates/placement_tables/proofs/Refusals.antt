-- What is known where no rule refuses.
use Rattle.std.specs.Prelude.{◌≡◌, ℕ, zero, suc, ◌≤◌, ◌<◌, ◌%◌, Bool, true, false, ◌==◌, Option, None, Some, IfSome, option_map}
use Rattle.std.specs.Option.{option_or}
use Rattle.std.proofs.Common.{refl, arith, inl, inr}
use Rattle.std.proofs.lemmas.Bool.{eqb-true, ltb-false, not-false, cases_lt, or_parts}
use Rattle.std.proofs.lemmas.Nat.Gcd.{dvd_of_mod-eq-zero}
use Prim.Native.Nat.{◌∣◌}
use Rattle.base_fields.specs.Results.{provided}
use Rattle.placement_rules.specs.Claims.{some_below}
use Rattle.placement_rules.specs.Faults.{above, below, off_multiple, where_so}

-- two refusals of which the first counts
pub or_none : {A : Type 0} (a b : Option A) → option_or a b ≡ None → (a ≡ None) × (b ≡ None)
or_none None b h = (refl, h)
or_none (Some x) b h = absurd (cc)

pub provided_none : {A : Type 0} (test : Bool) (x : A) → provided test x ≡ None → test ≡ false
provided_none true x h = absurd (cc)
provided_none false x h = refl

pub mapped_none : {A B : Type 0} (f : A → B) (a : Option A) → option_map f a ≡ None → a ≡ None
mapped_none f None h = refl
mapped_none f (Some x) h = absurd (cc)

pub where_none : {A : Type 0} (test : Bool) (a : Option A) → where_so test a ≡ None → test ≡ true → a ≡ None
where_none true a h is = h
where_none false a h is = absurd (cc)

pub above_none : (limit n : ℕ) → above limit n ≡ None → n ≤ limit
above_none limit n h = ltb-false limit n (provided_none _ _ h)

pub multiple_none : (n : Option ℕ) (to : ℕ) → off_multiple n to ≡ None → IfSome n (λ m. to ∣ m)
multiple_none None to h = tt
multiple_none (Some n) to h =
    dvd_of_mod-eq-zero to (eqb-true (n % to) 0 (not-false (n % to == 0) (provided_none _ _ h)))

pub below_none : (n : Option ℕ) (least : ℕ) → below n least ≡ None → IfSome n (λ m. least ≤ m)
below_none None least h = tt
below_none (Some n) least h = ltb-false n least (provided_none _ _ h)

-- no number below n passes
pub none_below : (n : ℕ) (test : ℕ → Bool) → some_below n test ≡ false → (o : ℕ) → o < n → test o ≡ false
unfolding some_below
none_below zero test h o small = absurd (omega arith)
none_below (suc n) test h o small =
    let parts = or_parts (test n) (some_below n test) h in
    elim (cases_lt o n) [
      | inl less ↦ none_below n test parts.1 o less
      | inr same ↦ let is : o ≡ n = omega arith in rw is parts.0
    ]
