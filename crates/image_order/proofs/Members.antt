-- Numbers in a list, and how many different ones below a limit there can be.
use Rattle.std.proofs.Common.{◌≡◌, ℕ, zero, suc, ◌+◌, ◌<◌, ◌≤◌, ◌||◌, ◌⊎◌, inl, inr, List, [], ◌∷◌, ◌++◌, Bool, true, false, cond, refl, ap, sym, subst, ◌∙◌, nat_eq, slice_index_or, length, arith}
use Rattle.std.specs.Prelude.{Contains, count_by}
use Rattle.std.specs.List.{list_any}
use Rattle.std.proofs.lemmas.Bool.{eq-eqb, eqb-true}
use Rattle.std.proofs.lemmas.List.Sums.{sum_by-cons}
use Rattle.image_order.specs.Order.{is_placed}

-- ---- the test and the fact

pub contains_next : (y : ℕ) (xs : List ℕ) (x : ℕ) → Contains xs x → Contains (y ∷ xs) x
contains_next y xs x h = (suc h.0, omega (arith, h.1), h.2)

pub contains_here : (x : ℕ) (xs : List ℕ) → Contains (x ∷ xs) x
contains_here x xs = (zero, omega arith, refl)

found_in : (p : ℕ → Bool) (x : ℕ) (xs : List ℕ) (b : Bool) → p x ≡ b → (b || list_any p xs) ≡ true → (list_any p xs ≡ true → (y : ℕ) × Contains xs y × (p y ≡ true)) → (y : ℕ) × Contains (x ∷ xs) y × (p y ≡ true)
found_in p x xs true here t rest = (x, contains_here x xs, here)
found_in p x xs false here t rest = let y = rest t in (y.0, contains_next x xs y.0 y.1, y.2)

-- one that passes is there
pub contains_any : (p : ℕ → Bool) (xs : List ℕ) → list_any p xs ≡ true → (x : ℕ) × Contains xs x × (p x ≡ true)
contains_any p [] h = cc
contains_any p (x ∷ xs) h = found_in p x xs (p x) refl h (contains_any p xs)

or_right : (b t : Bool) → t ≡ true → (b || t) ≡ true
or_right true t h = refl
or_right false t h = h

at_place : (p : ℕ → Bool) (xs : List ℕ) (x : ℕ) (k : ℕ) → k < length xs → slice_index_or xs k x ≡ x → p x ≡ true → list_any p xs ≡ true
at_place p [] x k below is passes = absurd (omega arith)
at_place p (y ∷ xs) x zero below is passes = ap (λ b. b || list_any p xs) (ap p is ∙ passes)
at_place p (y ∷ xs) x (suc k) below is passes = or_right (p y) (list_any p xs) (at_place p xs x k (omega arith) is passes)

pub any_contains : (p : ℕ → Bool) (xs : List ℕ) (x : ℕ) → Contains xs x → p x ≡ true → list_any p xs ≡ true
any_contains p xs x h passes = at_place p xs x h.0 h.1 h.2 passes

pub placed_from : (xs : List ℕ) (x : ℕ) → Contains xs x → is_placed xs x ≡ true
placed_from xs x h = any_contains (nat_eq x) xs x h (eq-eqb x x refl)

pub contains_placed : (xs : List ℕ) (x : ℕ) → is_placed xs x ≡ true → Contains xs x
contains_placed xs x h =
    let y = contains_any (nat_eq x) xs h in
    let same : y.0 ≡ x = sym (eqb-true x y.0 y.2) in
    subst (λ (z : ℕ). Contains xs z) same y.1

-- ---- cases of a test

pub by_test : {Goal : Type 0} (b : Bool) → (b ≡ true → Goal) → (b ≡ false → Goal) → Goal
by_test true passing other = passing refl
by_test false passing other = other refl

pub placed_cons : (y : ℕ) (xs : List ℕ) (x : ℕ) → is_placed (y ∷ xs) x ≡ true → (x ≡ y) ⊎ (is_placed xs x ≡ true)
placed_cons y xs x h = by_test (nat_eq x y) (λ same. inl (eqb-true x y same)) (λ other. inr (ap (λ b. b || is_placed xs x) (sym other) ∙ h))

pub placed_next : (y : ℕ) (xs : List ℕ) (x : ℕ) → is_placed xs x ≡ true → is_placed (y ∷ xs) x ≡ true
placed_next y xs x h = or_right (nat_eq x y) (is_placed xs x) h

pub placed_here : (x : ℕ) (xs : List ℕ) → is_placed (x ∷ xs) x ≡ true
placed_here x xs = ap (λ b. b || is_placed xs x) (eq-eqb x x refl)

pub placed_left : (xs ys : List ℕ) (x : ℕ) → is_placed xs x ≡ true → is_placed (xs ++ ys) x ≡ true
placed_left [] ys x h = cc
placed_left (y ∷ xs) ys x h = left_case y xs ys x (placed_cons y xs x h) (placed_left xs ys x)
  where
    left_case : (y : ℕ) (xs ys : List ℕ) (x : ℕ) → (x ≡ y) ⊎ (is_placed xs x ≡ true) → (is_placed xs x ≡ true → is_placed (xs ++ ys) x ≡ true) → is_placed (y ∷ (xs ++ ys)) x ≡ true
    left_case y xs ys x (inl same) rest = ap (λ b. b || is_placed (xs ++ ys) x) (eq-eqb x y same)
    left_case y xs ys x (inr there) rest = placed_next y (xs ++ ys) x (rest there)

pub placed_right : (xs ys : List ℕ) (x : ℕ) → is_placed ys x ≡ true → is_placed (xs ++ ys) x ≡ true
placed_right [] ys x h = h
placed_right (y ∷ xs) ys x h = placed_next y (xs ++ ys) x (placed_right xs ys x h)

pub placed_append : (xs ys : List ℕ) (x : ℕ) → is_placed (xs ++ ys) x ≡ true → (is_placed xs x ≡ true) ⊎ (is_placed ys x ≡ true)
placed_append [] ys x h = inr h
placed_append (y ∷ xs) ys x h = append_case y xs ys x (placed_cons y (xs ++ ys) x h) (placed_append xs ys x)
  where
    append_case : (y : ℕ) (xs ys : List ℕ) (x : ℕ) → (x ≡ y) ⊎ (is_placed (xs ++ ys) x ≡ true) → (is_placed (xs ++ ys) x ≡ true → (is_placed xs x ≡ true) ⊎ (is_placed ys x ≡ true)) → (is_placed (y ∷ xs) x ≡ true) ⊎ (is_placed ys x ≡ true)
    append_case y xs ys x (inl same) rest = inl (ap (λ b. b || is_placed xs x) (eq-eqb x y same))
    append_case y xs ys x (inr there) rest = elim (rest there) [ inl left ↦ inl (placed_next y xs x left) | inr right ↦ inr right ]

-- ---- different numbers

abbrev pub Distinct : List ℕ → Type 0
Distinct [] = Unit {0}
Distinct (x ∷ xs) = (is_placed xs x ≡ false) × Distinct xs

abbrev pub Below : ℕ → List ℕ → Type 0
Below n [] = Unit {0}
Below n (x ∷ xs) = (x < n) × Below n xs

not_true : (b : Bool) → (b ≡ true → ⊥) → b ≡ false
not_true true other = absurd (other refl)
not_true false other = refl

pub new_from : (xs : List ℕ) (x : ℕ) → (is_placed xs x ≡ true → ⊥) → is_placed xs x ≡ false
new_from xs x other = not_true (is_placed xs x) other

pub never_both : (xs : List ℕ) (x : ℕ) → is_placed xs x ≡ false → is_placed xs x ≡ true → ⊥
never_both xs x other passing = cc

-- a list without a number
abbrev without : ℕ → List ℕ → List ℕ
without n [] = []
without n (x ∷ xs) = cond (nat_eq n x) (without n xs) (x ∷ without n xs)

without_kept : (n : ℕ) (xs : List ℕ) (y : ℕ) → is_placed (without n xs) y ≡ true → is_placed xs y ≡ true
without_kept n [] y h = h
without_kept n (x ∷ xs) y h = kept_case n x xs y (nat_eq n x) refl h (without_kept n xs y)
  where
    kept_case : (n x : ℕ) (xs : List ℕ) (y : ℕ) (b : Bool) → nat_eq n x ≡ b → is_placed (cond b (without n xs) (x ∷ without n xs)) y ≡ true → (is_placed (without n xs) y ≡ true → is_placed xs y ≡ true) → is_placed (x ∷ xs) y ≡ true
    kept_case n x xs y true e h rest = placed_next x xs y (rest h)
    kept_case n x xs y false e h rest = elim (placed_cons x (without n xs) y h) [ inl same ↦ ap (λ b. b || is_placed xs y) (eq-eqb y x same) | inr there ↦ placed_next x xs y (rest there) ]

without_distinct : (n : ℕ) (xs : List ℕ) → Distinct xs → Distinct (without n xs)
without_distinct n [] d = d
without_distinct n (x ∷ xs) d = distinct_case n x xs (nat_eq n x) (new_from (without n xs) x (λ passing. never_both xs x d.0 (without_kept n xs x passing))) (without_distinct n xs d.1)
  where
    distinct_case : (n x : ℕ) (xs : List ℕ) (b : Bool) → is_placed (without n xs) x ≡ false → Distinct (without n xs) → Distinct (cond b (without n xs) (x ∷ without n xs))
    distinct_case n x xs true new rest = rest
    distinct_case n x xs false new rest = (new, rest)

without_below : (n : ℕ) (xs : List ℕ) → Below (suc n) xs → Below n (without n xs)
without_below n [] b = b
without_below n (x ∷ xs) b = below_case n x xs (nat_eq n x) refl b.0 (without_below n xs b.1)
  where
    below_case : (n x : ℕ) (xs : List ℕ) (t : Bool) → nat_eq n x ≡ t → x < suc n → Below n (without n xs) → Below n (cond t (without n xs) (x ∷ without n xs))
    below_case n x xs true e less rest = rest
    below_case n x xs false e less rest =
        let other : n ≡ x → ⊥ = λ same. (let passing : nat_eq n x ≡ true = eq-eqb n x same in cc) in
        (omega arith, rest)

without_new : (n : ℕ) (xs : List ℕ) → is_placed xs n ≡ false → without n xs ≡ xs
without_new n [] h = refl
without_new n (x ∷ xs) h = new_case n x xs (nat_eq n x) h (without_new n xs)
  where
    new_case : (n x : ℕ) (xs : List ℕ) (b : Bool) → (b || is_placed xs n) ≡ false → (is_placed xs n ≡ false → without n xs ≡ xs) → cond b (without n xs) (x ∷ without n xs) ≡ x ∷ xs
    new_case n x xs true h rest = cc
    new_case n x xs false h rest = ap (λ ys. x ∷ ys) (rest h)

without_length : (n : ℕ) (xs : List ℕ) → Distinct xs → length xs ≤ suc (length (without n xs))
without_length n [] d = omega arith
without_length n (x ∷ xs) d = length_case n x xs (nat_eq n x) refl d.0 (without_length n xs d.1)
  where
    length_case : (n x : ℕ) (xs : List ℕ) (b : Bool) → nat_eq n x ≡ b → is_placed xs x ≡ false → length xs ≤ suc (length (without n xs)) → suc (length xs) ≤ suc (length (cond b (without n xs) (x ∷ without n xs)))
    length_case n x xs true e new rest =
        let whole : without n xs ≡ xs = without_new n xs (ap (is_placed xs) (eqb-true n x e) ∙ new) in
        let long : length (without n xs) ≡ length xs = ap length whole in
        omega arith
    length_case n x xs false e new rest = omega arith

-- no more different numbers below a limit than the limit
pub pigeon : (n : ℕ) (xs : List ℕ) → Distinct xs → Below n xs → length xs ≤ n
pigeon zero [] d b = omega arith
pigeon zero (x ∷ xs) d b = let less : x < zero = b.0 in absurd (omega arith)
pigeon (suc n) xs d b =
    let fewer : length (without n xs) ≤ n = pigeon n (without n xs) (without_distinct n xs d) (without_below n xs b) in
    omega (arith, without_length n xs d)

-- ---- how often a number stands

count_none : (x : ℕ) (xs : List ℕ) → is_placed xs x ≡ false → count_by (nat_eq x) xs ≡ 0
count_none x [] h = refl
count_none x (y ∷ xs) h = none_case x y xs (nat_eq x y) refl h (count_none x xs)
  where
    none_case : (x y : ℕ) (xs : List ℕ) (b : Bool) → nat_eq x y ≡ b → (b || is_placed xs x) ≡ false → (is_placed xs x ≡ false → count_by (nat_eq x) xs ≡ 0) → count_by (nat_eq x) (y ∷ xs) ≡ 0
    none_case x y xs true e h rest = cc
    none_case x y xs false e h rest = rw e (rest h)

pub count_once : (x : ℕ) (xs : List ℕ) → Distinct xs → is_placed xs x ≡ true → count_by (nat_eq x) xs ≡ 1
count_once x [] d h = cc
count_once x (y ∷ xs) d h = once_case x y xs (nat_eq x y) refl d.0 h (count_once x xs d.1)
  where
    once_case : (x y : ℕ) (xs : List ℕ) (b : Bool) → nat_eq x y ≡ b → is_placed xs y ≡ false → (b || is_placed xs x) ≡ true → (is_placed xs x ≡ true → count_by (nat_eq x) xs ≡ 1) → count_by (nat_eq x) (y ∷ xs) ≡ 1
    once_case x y xs true e new h rest =
        let none : count_by (nat_eq x) xs ≡ 0 = count_none x xs (ap (is_placed xs) (eqb-true x y e) ∙ new) in
        sum_by-cons (λ z. cond (nat_eq x z) 1 0) y xs ∙ ap (λ t. cond t 1 0 + count_by (nat_eq x) xs) e ∙ ap (λ k. 1 + k) none
    once_case x y xs false e new h rest = rw e (rest h)

-- ---- one more at the end

pub distinct_push : (xs : List ℕ) (x : ℕ) → Distinct xs → is_placed xs x ≡ false → Distinct (xs ++ x ∷ [])
distinct_push [] x d new = (refl, tt)
distinct_push (y ∷ xs) x d new = (new_from (xs ++ x ∷ []) y (λ passing. elim (placed_append xs (x ∷ []) y passing) [ inl there ↦ never_both xs y d.0 there | inr last ↦ at_end y xs x new last ]), distinct_push xs x d.1 (new_tail y xs x new))
  where
    at_end : (y : ℕ) (xs : List ℕ) (x : ℕ) → is_placed (y ∷ xs) x ≡ false → is_placed (x ∷ []) y ≡ true → ⊥
    at_end y xs x new last = elim (placed_cons x [] y last) [ inl same ↦ never_both (y ∷ xs) x new (ap (λ b. b || is_placed xs x) (eq-eqb x y (sym same))) | inr none ↦ never_both [] y refl none ]

    new_tail : (y : ℕ) (xs : List ℕ) (x : ℕ) → is_placed (y ∷ xs) x ≡ false → is_placed xs x ≡ false
    new_tail y xs x new = new_from xs x (λ passing. never_both (y ∷ xs) x new (placed_next y xs x passing))

pub below_push : (n : ℕ) (xs : List ℕ) (x : ℕ) → Below n xs → x < n → Below n (xs ++ x ∷ [])
below_push n [] x b less = (less, tt)
below_push n (y ∷ xs) x b less = (b.0, below_push n xs x b.1 less)
