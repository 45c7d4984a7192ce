-- A set of offsets has one list.
use Rattle.std.proofs.Common.{◌≡◌, ℕ, suc, ◌+◌, ◌<◌, ◌≤◌, List, [], ◌∷◌, true, inl, inr, refl, sym, ap, ◌∙◌, arith}
use Rattle.std.proofs.lemmas.Bool.{cases_lt}
use Rattle.base_fields.specs.declared.spans.Span.{Span}
use Rattle.span_cover.specs.Cover.{AreApart, covers, has}
use Rattle.span_cover.proofs.Spans.{Holder, apart_drop, either, has_in, holder, in_has, or_left, or_right, same_bool, true≢false}

tail_apart : (x : Span) (xs : List Span) → AreApart (x ∷ xs) → AreApart xs
tail_apart x xs h = apart_drop 1 (x ∷ xs) h

-- the first offset of the first span
first_covered : (x : Span) (xs : List Span) → AreApart (x ∷ xs) → covers (x ∷ xs) x.at ≡ true
first_covered x xs h = let some : 0 < x.len = h.filled 0 x (omega arith) in or_left (has x x.at) (covers xs x.at) (has_in x x.at (omega arith) (omega arith))

-- those behind the first are past its end
later : (x : Span) (xs : List Span) (o : ℕ) → AreApart (x ∷ xs) → covers xs o ≡ true → x.at + x.len < o
later x xs o h c =
    let it : Holder xs o = holder xs o c in
    let gap : x.at + x.len < it.span.at = rw (← it.is x) (h.apart 0 (suc it.place) x (omega arith) (omega (arith, it.within))) in
    omega (arith, it.low)

-- the least offset
least : (x : Span) (xs : List Span) (o : ℕ) → AreApart (x ∷ xs) → covers (x ∷ xs) o ≡ true → x.at ≤ o
least x xs o h c =
    elim (either (has x o) (covers xs o) c) [
      | inl own ↦ let inside : (x.at ≤ o) × (o < x.at + x.len) = in_has x o own in omega arith
      | inr rest ↦ let far : x.at + x.len < o = later x xs o h rest in omega arith
    ]

-- a first span ends no later than another that begins where it begins, where the other's list covers all that its own does
no_longer : (x y : Span) (xs ys : List Span) → AreApart (x ∷ xs) → AreApart (y ∷ ys) → x.at ≡ y.at → ((o : ℕ) → covers (x ∷ xs) o ≡ true → covers (y ∷ ys) o ≡ true) → x.len ≤ y.len
no_longer x y xs ys h k at within =
    elim (cases_lt y.len x.len) [
      | inl shorter ↦
          absurd (elim (either (has y (y.at + y.len)) (covers ys (y.at + y.len)) (within (y.at + y.len) (or_left (has x (y.at + y.len)) (covers xs (y.at + y.len)) (has_in x (y.at + y.len) (omega arith) (omega arith))))) [
            | inl own ↦ let inside : (y.at ≤ y.at + y.len) × (y.at + y.len < y.at + y.len) = in_has y (y.at + y.len) own in omega arith
            | inr rest ↦ let far : y.at + y.len < y.at + y.len = later y ys (y.at + y.len) k rest in omega arith
          ])
      | inr fine ↦ fine
    ]

-- an offset behind the first span
tail_covers : (x : Span) (xs ys : List Span) → AreApart (x ∷ xs) → ((o : ℕ) → covers (x ∷ xs) o ≡ true → covers (x ∷ ys) o ≡ true) → (o : ℕ) → covers xs o ≡ true → covers ys o ≡ true
tail_covers x xs ys h within o c =
    elim (either (has x o) (covers ys o) (within o (or_right (has x o) (covers xs o) c))) [
      | inl own ↦ let inside : (x.at ≤ o) × (o < x.at + x.len) = in_has x o own in let far : x.at + x.len < o = later x xs o h c in absurd (omega arith)
      | inr rest ↦ rest
    ]

same_span : (x y : Span) → x.at ≡ y.at → x.len ≡ y.len → x ≡ y
same_span x y p q =
    let made : ℕ → ℕ → Span = λ a l. record { at = a; len = l } in
    ap (λ (a : ℕ). made a x.len) p ∙ ap (made y.at) q

pub one_list : (xs ys : List Span) → AreApart xs → AreApart ys → ((o : ℕ) → covers xs o ≡ covers ys o) → xs ≡ ys
one_list [] [] h k same = refl
one_list [] (y ∷ ys) h k same = absurd (true≢false (sym (first_covered y ys k) ∙ sym (same y.at)))
one_list (x ∷ xs) [] h k same = absurd (true≢false (sym (first_covered x xs h) ∙ same x.at))
one_list (x ∷ xs) (y ∷ ys) h k same =
    let low : y.at ≤ x.at = least y ys x.at k (sym (same x.at) ∙ first_covered x xs h) in
    let high : x.at ≤ y.at = least x xs y.at h (same y.at ∙ first_covered y ys k) in
    let at : x.at ≡ y.at = omega arith in
    let short : x.len ≤ y.len = no_longer x y xs ys h k at (λ o c. sym (same o) ∙ c) in
    let long : y.len ≤ x.len = no_longer y x ys xs k h (sym at) (λ o c. same o ∙ c) in
    let first : y ≡ x = same_span y x (sym at) (omega arith) in
    let same' : (o : ℕ) → covers (x ∷ xs) o ≡ covers (x ∷ ys) o = λ o. same o ∙ ap (λ (s : Span). covers (s ∷ ys) o) first in
    let k' : AreApart (x ∷ ys) = rw (← first) k in
    let tails : xs ≡ ys = one_list xs ys (tail_apart x xs h) (tail_apart y ys k)
    (λ o. same_bool (covers xs o) (covers ys o)
    (tail_covers x xs ys h (λ p c. sym (same' p) ∙ c) o)
    (tail_covers x ys xs k' (λ p c. same' p ∙ c) o)) in
    ap (λ (s : Span). s ∷ xs) (sym first) ∙ ap (λ (l : List Span). y ∷ l) tails
