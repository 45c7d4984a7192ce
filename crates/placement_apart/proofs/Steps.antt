-- What follows where none of several refusals is there, and where no number below another passes.
use Rattle.std.specs.Prelude.{◌≡◌, ℕ, zero, suc, ◌<◌, List, [], ◌∷◌, ◌++◌, All, Bool, true, false, Option, None, Some, option_map, if◌then◌else◌}
use Rattle.std.specs.Option.{option_or}
use Rattle.std.proofs.Common.{refl, arith, inl, inr, ap, ◌∙◌}
use Rattle.std.proofs.lemmas.Bool.{cases_lt, or_parts}
use Rattle.std.proofs.lemmas.List.Elements.{All-tail}
use Rattle.base_fields.specs.Results.{provided}
use Rattle.placement_rules.specs.Claims.{some_below}

-- ---- refusals

pub or_none : {A : Type 0} (a b : Option A) → option_or a b ≡ None → (a ≡ None) × (b ≡ None)
or_none None b h = (refl, h)
or_none (Some x) b h = absurd (cc)

pub map_none : {A B : Type 0} (f : A → B) (o : Option A) → option_map f o ≡ None → o ≡ None
map_none f None h = refl
map_none f (Some x) h = absurd (cc)

pub provided_none : {A : Type 0} (c : Bool) (x : A) → provided c x ≡ None → c ≡ false
provided_none true x h = absurd (cc)
provided_none false x h = refl

-- the first of a list whose rest is counted on
pub counted_none : (c : Bool) (rest : Option ℕ) → (if c then Some 0 else option_map suc rest) ≡ None → (c ≡ false) × (rest ≡ None)
counted_none true rest h = absurd (cc)
counted_none false rest h = (refl, map_none suc rest h)

-- ---- numbers below

pub none_below : (n : ℕ) (test : ℕ → Bool) (o : ℕ) → some_below n test ≡ false → o < n → test o ≡ false
unfolding some_below
none_below zero test o h below = absurd (omega arith)
none_below (suc n) test o h below =
    let parts = or_parts (test n) (some_below n test) h in
    elim (cases_lt o n) [
      | inl lower ↦ none_below n test o parts.1 lower
      | inr not_lower ↦ let same : o ≡ n = omega arith in ap test same ∙ parts.0
    ]

-- ---- lists

pub all_front : {X : Type 0} (P : X → Type 0) (xs ys : List X) → All P (xs ++ ys) → All P xs
all_front P [] ys all k d inside = absurd (omega arith)
all_front P (x ∷ xs) ys all zero d inside = all 0 d (omega arith)
all_front P (x ∷ xs) ys all (suc k) d inside = all_front P xs ys (All-tail P x (xs ++ ys) all) k d (omega arith)

pub all_back : {X : Type 0} (P : X → Type 0) (xs ys : List X) → All P (xs ++ ys) → All P ys
all_back P [] ys all = all
all_back P (x ∷ xs) ys all = all_back P xs ys (All-tail P x (xs ++ ys) all)

-- two facts of each element
pub all_both : {X : Type 0} (P Q R : X → Type 0) → ((x : X) → P x → Q x → R x) → (xs : List X) → All P xs → All Q xs → All R xs
all_both P Q R f xs ps qs k d inside = f _ (ps k d inside) (qs k d inside)
