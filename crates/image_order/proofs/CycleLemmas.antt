-- The first image that has a cycle.
use Rattle.std.proofs.Common.{◌≡◌, ℕ, zero, suc, ◌+◌, ◌-◌, ◌<◌, ◌≤◌, nat_eq, List, [], ◌∷◌, Bool, true, false, cond, Some, None, refl, ap, sym, ◌∙◌, length, arith}
use Rattle.std.specs.Prelude.{find}
use Rattle.std.specs.List.{range_with_len}
use Rattle.std.proofs.lemmas.Bool.{eq-eqb, eqb-true}
use Rattle.image_order.specs.Chains.{HasCycle, HasNone, IsChain, first_cycle, returns}
use Rattle.image_order.specs.Laws.{CyclesExactly, IsFirstCycle}
use Rattle.image_order.proofs.ChainLemmas.{parent_below, returned, returns_exactly}
use Rattle.image_order.proofs.Members.{by_test}

-- ---- the first number of a range that passes

-- with none that passes in front of it
abbrev IsFirstFound : (ℕ → Bool) → ℕ → ℕ → Type 0
IsFirstFound p first image = (p image ≡ true) × ((earlier : ℕ) → first ≤ earlier → earlier < image → p earlier ≡ false)

found_later : (p : ℕ → Bool) (first image : ℕ) → p first ≡ false → IsFirstFound p (first + 1) image → IsFirstFound p first image
found_later p first image fails found = (
  found.0,
  λ earlier from below. by_test (nat_eq earlier first)
      (λ same. ap p (eqb-true earlier first same) ∙ fails)
      (λ other. (let apart : earlier ≡ first → ⊥ = λ same. (let equal : nat_eq earlier first ≡ true = eq-eqb earlier first same in cc) in found.1 earlier (omega arith) below)),
)

found_case : (p : ℕ → Bool) (first n image : ℕ) (b : Bool) → p first ≡ b → cond b (Some first) (find p (range_with_len (first + 1) n)) ≡ Some image → (find p (range_with_len (first + 1) n) ≡ Some image → IsFirstFound p (first + 1) image) → IsFirstFound p first image
found_case p first n image true e h rest = let same : first ≡ image = cc in (ap p (sym same) ∙ e, λ earlier from below. absurd (omega arith))
found_case p first n image false e h rest = found_later p first image e (rest h)

found_first : (p : ℕ → Bool) (first n image : ℕ) → find p (range_with_len first n) ≡ Some image → IsFirstFound p first image
found_first p first zero image h = cc
found_first p first (suc n) image h = found_case p first n image (p first) refl h (found_first p (first + 1) n image)

none_case : (p : ℕ → Bool) (first n : ℕ) (b : Bool) → p first ≡ b → cond b (Some first) (find p (range_with_len (first + 1) n)) ≡ None → (find p (range_with_len (first + 1) n) ≡ None → (k : ℕ) → first + 1 ≤ k → k < first + 1 + n → p k ≡ false) → (k : ℕ) → first ≤ k → k < first + suc n → p k ≡ false
none_case p first n true e h rest k from below = cc
none_case p first n false e h rest k from below = by_test (nat_eq k first)
    (λ same. ap p (eqb-true k first same) ∙ e)
    (λ other. (let apart : k ≡ first → ⊥ = λ same. (let equal : nat_eq k first ≡ true = eq-eqb k first same in cc) in rest h k (omega arith) (omega arith)))

found_none : (p : ℕ → Bool) (first n : ℕ) → find p (range_with_len first n) ≡ None → (k : ℕ) → first ≤ k → k < first + n → p k ≡ false
found_none p first zero h k from below = absurd (omega arith)
found_none p first (suc n) h k from below = none_case p first n (p first) refl h (found_none p (first + 1) n) k from below

-- one that passes is found, and one that doesn't is passed over
pub find_passes : (p : ℕ → Bool) (first n : ℕ) → 0 < n → p first ≡ true → find p (range_with_len first n) ≡ Some first
find_passes p first zero some h = absurd (omega arith)
find_passes p first (suc n) some h = ap (λ b. cond b (Some first) (find p (range_with_len (first + 1) n))) h

pub find_later : (p : ℕ → Bool) (first n : ℕ) → 0 < n → p first ≡ false → find p (range_with_len first n) ≡ find p (range_with_len (first + 1) (n - 1))
find_later p first zero some h = absurd (omega arith)
find_later p first (suc n) some h =
    let fewer : n ≡ suc n - 1 = omega arith in
    ap (λ b. cond b (Some first) (find p (range_with_len (first + 1) n))) h ∙ ap (λ k. find p (range_with_len (first + 1) k)) fewer

-- ---- the law

starts_below : (families : List (List ℕ)) (image : ℕ) (between : List ℕ) → IsChain families image between image → image < length families
starts_below families image [] chain = parent_below families image image chain
starts_below families image (next ∷ rest) chain = parent_below families image next chain.0

first_is : (families : List (List ℕ)) (image : ℕ) → first_cycle families ≡ Some image → IsFirstCycle families image
first_is families image h =
    let found = found_first (returns families) 0 (length families) image h in
    let cycle : HasCycle families image = (returns_exactly families image).0 found.0 in
    record {
      within = starts_below families image cycle.0 cycle.1;
      returns = cycle;
      first = λ earlier less cycle. (let never : returns families earlier ≡ false = found.1 earlier (omega arith) less in let back : returns families earlier ≡ true = returned families earlier cycle in cc);
    }

pub none_at_all : (families : List (List ℕ)) → first_cycle families ≡ None → HasNone families
none_at_all families h image cycle =
    let never : returns families image ≡ false = found_none (returns families) 0 (length families) h image (omega arith) (omega (arith, starts_below families image cycle.0 cycle.1)) in
    let back : returns families image ≡ true = returned families image cycle in
    cc

pub cycles_exactly : CyclesExactly
cycles_exactly = record { some = first_is; none = none_at_all }
