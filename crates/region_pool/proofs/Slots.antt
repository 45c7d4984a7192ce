-- Which slots of a pool are out.
use Rattle.std.proofs.Common.{◌≡◌, ℕ, zero, suc, ◌+◌, ◌<◌, ◌≤◌, Bool, true, false, not, cond, List, [], ◌∷◌, length, take, get_or, set, count_by, refl, sym, ap, ◌∙◌, arith, position, IsNone, Some, None, ltb, ltb-true, ltb-false, length-take, get_or-set_same}
use Rattle.std.specs.List.{position_or_len}
use Rattle.std.proofs.lemmas.List.Sums.{sum_by-cons}
use Rattle.std.proofs.lemmas.List.Quantifiers.{position-Some}
use Rattle.std.proofs.lemmas.List.{set-set, set-get_or}

-- a front of a list after a write
pub take-set-any : {X : Type 0} (n i : ℕ) (xs : List X) (x : X) → take n (set xs i x) ≡ set (take n xs) i x
take-set-any zero i xs x = refl
take-set-any (suc n) i [] x = refl
take-set-any (suc n) zero (y ∷ xs) x = refl
take-set-any (suc n) (suc i) (y ∷ xs) x = ap (λ l. y ∷ l) (take-set-any n i xs x)

-- a slot that is out is one of the pool's
pub out_below : (xs : List Bool) (i : ℕ) → get_or xs i false ≡ true → i < length xs
out_below [] i h = cc
out_below (x ∷ xs) zero h = omega arith
out_below (x ∷ xs) (suc i) h = omega (arith, out_below xs i h)

pub free_below : (xs : List Bool) (i : ℕ) → get_or xs i true ≡ false → i < length xs
free_below [] i h = cc
free_below (x ∷ xs) zero h = omega arith
free_below (x ∷ xs) (suc i) h = omega (arith, free_below xs i h)

-- how many are free once one more is out, or back
count-taken : (xs : List Bool) (i : ℕ) → get_or xs i true ≡ false → count_by not (set xs i true) + 1 ≡ count_by not xs
count-taken [] i h = cc
count-taken (true ∷ xs) zero h = cc
count-taken (false ∷ xs) zero h = omega (arith, sum_by-cons (λ x. cond (not x) 1 0) true xs, sum_by-cons (λ x. cond (not x) 1 0) false xs)
count-taken (x ∷ xs) (suc i) h = omega (arith, sum_by-cons (λ x. cond (not x) 1 0) x (set xs i true), sum_by-cons (λ x. cond (not x) 1 0) x xs, count-taken xs i h)

count-given : (xs : List Bool) (i : ℕ) → get_or xs i false ≡ true → count_by not (set xs i false) ≡ count_by not xs + 1
count-given [] i h = cc
count-given (false ∷ xs) zero h = cc
count-given (true ∷ xs) zero h = omega (arith, sum_by-cons (λ x. cond (not x) 1 0) true xs, sum_by-cons (λ x. cond (not x) 1 0) false xs)
count-given (x ∷ xs) (suc i) h = omega (arith, sum_by-cons (λ x. cond (not x) 1 0) x (set xs i false), sum_by-cons (λ x. cond (not x) 1 0) x xs, count-given xs i h)

-- the same for the front that counts
pub free_taken : (n i : ℕ) (xs : List Bool) → get_or (take n xs) i true ≡ false → count_by not (take n (set xs i true)) + 1 ≡ count_by not (take n xs)
free_taken n i xs h = ap (λ l. count_by not l + 1) (take-set-any n i xs true) ∙ count-taken (take n xs) i h

pub free_given : (n i : ℕ) (xs : List Bool) → get_or (take n xs) i false ≡ true → count_by not (take n (set xs i false)) ≡ count_by not (take n xs) + 1
free_given n i xs h = ap (count_by not) (take-set-any n i xs false) ∙ count-given (take n xs) i h

-- where one is free, the first of them is found
pub some_free : (xs : List Bool) → position_or_len not xs < length xs → 0 < count_by not xs
some_free [] h = absurd (omega arith)
some_free (true ∷ xs) h = omega (arith, sum_by-cons (λ x. cond (not x) 1 0) true xs, some_free xs (omega arith))
some_free (false ∷ xs) h = omega (arith, sum_by-cons (λ x. cond (not x) 1 0) false xs)

pub none_free : (xs : List Bool) → length xs ≤ position_or_len not xs → count_by not xs ≡ 0
none_free [] h = refl
none_free (true ∷ xs) h = omega (arith, sum_by-cons (λ x. cond (not x) 1 0) true xs, none_free xs (omega arith))
none_free (false ∷ xs) h = absurd (omega arith)

pub position-none : (xs : List Bool) → (IsNone (position not xs) → count_by not xs ≡ 0) × (count_by not xs ≡ 0 → IsNone (position not xs))
position-none xs =
    let at : ℕ = position_or_len not xs in
    (elim (ltb at (length xs)) as (λ v. ltb at (length xs) ≡ v → (IsNone (cond v (Some at) None) → count_by not xs ≡ 0) × (count_by not xs ≡ 0 → IsNone (cond v (Some at) None))) [
      | true ↦ λ e. (λ n. cc, λ z. absurd (omega (arith, some_free xs (ltb-true at (length xs) e))))
      | false ↦ λ e. (λ n. none_free xs (ltb-false at (length xs) e), λ z. refl)
    ]) refl

-- the slot that is found is free
pub first_is_free : (xs : List Bool) (i : ℕ) → position not xs ≡ Some i → get_or xs i true ≡ false
first_is_free xs i h =
    let passes : not (get_or xs i true) ≡ true = (position-Some not xs i true h).1 in
    (elim (get_or xs i true) as (λ v. not v ≡ true → v ≡ false) [ true ↦ λ e. cc | false ↦ λ e. refl ]) passes

-- a slot that is found is one of the pool's, and out once it is marked
pub found_there : (n i : ℕ) (xs : List Bool) → get_or (take n xs) i true ≡ false → i < n
found_there n i xs h = omega (arith, free_below (take n xs) i h, length-take n xs)

pub marked_out : (n i : ℕ) (xs : List Bool) → get_or (take n xs) i true ≡ false → get_or (take n (set xs i true)) i false ≡ true
marked_out n i xs h =
    ap (λ l. get_or l i false) (take-set-any n i xs true) ∙ get_or-set_same (take n xs) i true false (free_below (take n xs) i h)

-- a mark that is set and taken back leaves the marks as they were
pub marked_back : (n i : ℕ) (xs : List Bool) → get_or (take n xs) i true ≡ false → set (take n (set xs i true)) i false ≡ take n xs
marked_back n i xs h =
    ap (λ l. set l i false) (take-set-any n i xs true)
    ∙ set-set (take n xs) i true false
    ∙ ap (set (take n xs) i) (sym h)
    ∙ set-get_or (take n xs) i true
