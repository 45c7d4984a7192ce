-- A chain of any length that returns, and the bounded search for one.
use Rattle.std.proofs.Common.{◌≡◌, ℕ, zero, suc, ◌<◌, ◌≤◌, ◌||◌, inl, inr, List, [], ◌∷◌, ◌++◌, Bool, true, false, Option, Some, None, refl, sym, subst, nat_eq, length, arith}
use Rattle.std.specs.Prelude.{Contains, slice_get, unwrap_or}
use Rattle.std.proofs.lemmas.Bool.{eq-eqb, eqb-true}
use Rattle.std.proofs.lemmas.Option.{slice_get_within}
use Rattle.image_order.specs.Chains.{HasCycle, IsChain, children, reaches, returns}
use Rattle.image_order.specs.Laws.{ReturnsExactly}
use Rattle.image_order.specs.Order.{is_placed}
use Rattle.image_order.proofs.Members.{Below, Distinct, any_contains, by_test, contains_any, pigeon, placed_cons}

pub none_contains : (x : ℕ) → Contains [] x → ⊥
none_contains x h = let less : h.0 < 0 = h.1 in omega arith

-- an image that has a child has a number
pub parent_below : (families : List (List ℕ)) (image child : ℕ) → Contains (children families image) child → image < length families
parent_below families image child h = found (slice_get families image) refl h
  where
    found : (o : Option (List ℕ)) → slice_get families image ≡ o → Contains (unwrap_or o []) child → image < length families
    found None e c = absurd (none_contains child c)
    found (Some cs) e c = slice_get_within families image cs e

pub chain-append : (families : List (List ℕ)) (a : ℕ) (bs : List ℕ) (b : ℕ) (cs : List ℕ) (c : ℕ) → IsChain families a bs b → IsChain families b cs c → IsChain families a (bs ++ b ∷ cs) c
chain-append families a [] b cs c first second = (first, second)
chain-append families a (d ∷ bs) b cs c first second = (first.0, chain-append families d bs b cs c first.1 second)

-- ---- what the search finds is a chain

pub chain_found : (families : List (List ℕ)) (steps from to : ℕ) → reaches families steps from to ≡ true → (between : List ℕ) × IsChain families from between to
chain_found families zero from to h = cc
chain_found families (suc steps) from to h =
    let child = contains_any (λ child. nat_eq child to || reaches families steps child to) (children families from) h in
    next child.0 child.1 (nat_eq child.0 to) refl child.2 (chain_found families steps child.0 to)
  where
    next : (child : ℕ) → Contains (children families from) child → (b : Bool) → nat_eq child to ≡ b → (b || reaches families steps child to) ≡ true → (reaches families steps child to ≡ true → (between : List ℕ) × IsChain families child between to) → (between : List ℕ) × IsChain families from between to
    next child step true here passes rest = ([], subst (λ (z : ℕ). Contains (children families from) z) (eqb-true child to here) step)
    next child step false here passes rest = let more = rest passes in (child ∷ more.0, (step, more.1))

-- ---- a chain of few steps is found

or_left : (b t : Bool) → b ≡ true → (b || t) ≡ true
or_left true t h = refl
or_left false t h = cc

or_right : (b t : Bool) → t ≡ true → (b || t) ≡ true
or_right true t h = refl
or_right false t h = h

pub chain_reaches : (families : List (List ℕ)) (steps from to : ℕ) (between : List ℕ) → IsChain families from between to → length between < steps → reaches families steps from to ≡ true
chain_reaches families zero from to between chain few = absurd (omega arith)
chain_reaches families (suc steps) from to [] chain few =
    any_contains (λ child. nat_eq child to || reaches families steps child to) (children families from) to chain (or_left (nat_eq to to) (reaches families steps to to) (eq-eqb to to refl))
chain_reaches families (suc steps) from to (next ∷ rest) chain few =
    any_contains (λ child. nat_eq child to || reaches families steps child to) (children families from) next chain.0 (or_right (nat_eq next to) (reaches families steps next to) (chain_reaches families steps next to rest chain.1 (omega arith)))

-- ---- a chain without an image twice

-- the end of a chain, from an image on that it goes through
behind : (families : List (List ℕ)) (c : ℕ) (cs : List ℕ) (b : ℕ) → IsChain families c cs b → Distinct (c ∷ cs) → (a : ℕ) → is_placed (c ∷ cs) a ≡ true → (ds : List ℕ) × IsChain families a ds b × Distinct (a ∷ ds)
behind families c [] b chain d a h = elim (placed_cons c [] a h) [ inl same ↦ ([], subst (λ (z : ℕ). IsChain families z [] b) (sym same) chain, (refl, tt)) | inr none ↦ cc ]
behind families c (e ∷ cs) b chain d a h = elim (placed_cons c (e ∷ cs) a h) [
  | inl same ↦ (e ∷ cs, subst (λ (z : ℕ). IsChain families z (e ∷ cs) b) (sym same) chain, subst (λ (z : ℕ). Distinct (z ∷ (e ∷ cs))) (sym same) d)
  | inr there ↦ behind families e cs b chain.1 d.1 a there
]

pub simple : (families : List (List ℕ)) (a : ℕ) (bs : List ℕ) (b : ℕ) → IsChain families a bs b → (cs : List ℕ) × IsChain families a cs b × Distinct (a ∷ cs)
simple families a [] b chain = ([], chain, (refl, tt))
simple families a (c ∷ bs) b chain = longer (simple families c bs b chain.1)
  where
    longer : ((cs : List ℕ) × IsChain families c cs b × Distinct (c ∷ cs)) → (cs : List ℕ) × IsChain families a cs b × Distinct (a ∷ cs)
    longer found = by_test (is_placed (c ∷ found.0) a) (λ there. behind families c found.0 b found.1 found.2 a there) (λ new. (c ∷ found.0, (chain.0, found.1), (new, found.2)))

pub chain_below : (families : List (List ℕ)) (a : ℕ) (bs : List ℕ) (b : ℕ) → IsChain families a bs b → Below (length families) (a ∷ bs)
chain_below families a [] b chain = (parent_below families a b chain, tt)
chain_below families a (c ∷ bs) b chain = (parent_below families a c chain.0, chain_below families c bs b chain.1)

-- ---- the law

pub returned : (families : List (List ℕ)) (image : ℕ) → HasCycle families image → returns families image ≡ true
returned families image cycle =
    let short = simple families image cycle.0 image cycle.1 in
    let few : length (image ∷ short.0) ≤ length families = pigeon (length families) (image ∷ short.0) short.2 (chain_below families image short.0 image short.1) in
    chain_reaches families (length families) image image short.0 short.1 (omega arith)

pub returns_exactly : ReturnsExactly
returns_exactly families image = (chain_found families (length families) image image, returned families image)
