-- Which offsets spans have, and what a list of spans keeps when its middle is replaced.
use Rattle.std.proofs.Common.{◌≡◌, ℕ, ◌+◌, ◌-◌, ◌^◌, ◌<◌, ◌≤◌, ◌⊎◌, inl, inr, List, ◌++◌, length, get_or, take, drop, Bool, true, false, not, ◌||◌, ◌&&◌, refl, sym, ap, ◌∙◌, arith, append_assoc, length-append, length-drop, length-take}
use Rattle.std.proofs.lemmas.Bool.{cases_lt}
use Rattle.std.proofs.lemmas.Bool.Decides.{nat_tests}
use Rattle.std.proofs.lemmas.List.{take-append-drop, get_or-take, get_or-drop, get_or-append_right, get_or_append_left, get_or_default, drop-drop}
use Rattle.std.proofs.lemmas.List.Elements.{All-append, All-drop, All-take}
use Rattle.std.proofs.lemmas.List.Folds.{Any-from_list_any, list_any-append, list_any_at, list_any_none}
use Rattle.std.specs.Prelude.{All, Any}
use Rattle.base_fields.specs.declared.spans.Span.{Span}
use Rattle.span_cover.specs.Cover.{AreApart, HasLess, HasMore, IsCover, covers, has}

-- ---- one span
pub has_in : (s : Span) (o : ℕ) → s.at ≤ o → o < s.at + s.len → has s o ≡ true
has_in s o low high = grind (arith, nat_tests)

pub in_has : (s : Span) (o : ℕ) → has s o ≡ true → (s.at ≤ o) × (o < s.at + s.len)
in_has s o h = (grind (arith, nat_tests), grind (arith, nat_tests))

pub has_out : (s : Span) (o : ℕ) → (o < s.at) ⊎ (s.at + s.len ≤ o) → has s o ≡ false
has_out s o (inl h) = grind (arith, nat_tests)
has_out s o (inr h) = grind (arith, nat_tests)

pub same_bool : (a b : Bool) → (a ≡ true → b ≡ true) → (b ≡ true → a ≡ true) → a ≡ b
same_bool true b f g = sym (f refl)
same_bool false true f g = g refl
same_bool false false f g = refl

pub either : (a b : Bool) → (a || b) ≡ true → (a ≡ true) ⊎ (b ≡ true)
either true b h = inl refl
either false b h = inr h

pub or_left : (a b : Bool) → a ≡ true → (a || b) ≡ true
or_left true b h = refl
or_left false b h = cc

pub or_right : (a b : Bool) → b ≡ true → (a || b) ≡ true
or_right true b h = refl
or_right false b h = h

-- ---- a list of spans
-- a span that has an offset that the list covers, with its place
pub record Holder (spans : List Span) (o : ℕ) : Type 0 where
  pub place : ℕ
  pub span : Span
  pub within : place < length spans
  pub is : (d : Span) → get_or spans place d ≡ span
  pub low : span.at ≤ o
  pub high : o < span.at + span.len

pub holder : (spans : List Span) (o : ℕ) → covers spans o ≡ true → Holder spans o
holder spans o h =
    let found : Any (λ s. has s o ≡ true) spans = Any-from_list_any (λ s. has s o) spans h in
    let inside : (found.1.at ≤ o) × (o < found.1.at + found.1.len) = in_has found.1 o found.4 in
    record {
      place = found.0;
      span = found.1;
      within = found.2;
      is = λ d. get_or_default spans found.0 d found.1 found.2 ∙ found.3;
      low = inside.0;
      high = inside.1;
    }

pub covers_at : (spans : List Span) (i o : ℕ) (d : Span) → i < length spans → (get_or spans i d).at ≤ o → o < (get_or spans i d).at + (get_or spans i d).len → covers spans o ≡ true
covers_at spans i o d below low high = list_any_at (λ s. has s o) spans i d below (has_in (get_or spans i d) o low high)

pub covers_none : (spans : List Span) (o : ℕ) → All (λ s. has s o ≡ false) spans → covers spans o ≡ false
covers_none spans o h = list_any_none (λ s. has s o) spans h

-- ---- parts of a list
below_take : (n i : ℕ) (spans : List Span) → i < length (take n spans) → (i < n) × (i < length spans)
below_take n i spans h = (omega (arith, length-take n spans), omega (arith, length-take n spans))

below_drop : (n i : ℕ) (spans : List Span) → i < length (drop n spans) → n + i < length spans
below_drop n i spans h = omega (arith, length-drop n spans)

apart_take : (n : ℕ) (spans : List Span) → AreApart spans → AreApart (take n spans)
apart_take n spans h = record {
  filled = All-take (λ s. 0 < s.len) n spans h.filled;
  apart = λ i j d before below.
      let within : (j < n) × (j < length spans) = below_take n j spans below in
      rw (get_or-take n spans i d (omega arith), get_or-take n spans j d within.0) (h.apart i j d before within.1);
}

pub apart_drop : (n : ℕ) (spans : List Span) → AreApart spans → AreApart (drop n spans)
apart_drop n spans h = record {
  filled = All-drop (λ s. 0 < s.len) n spans h.filled;
  apart = λ i j d before below. rw (get_or-drop n spans i d, get_or-drop n spans j d) (h.apart (n + i) (n + j) d (omega arith) (below_drop n j spans below));
}

apart_append : (xs ys : List Span) → AreApart xs → AreApart ys → ((i j : ℕ) (d : Span) → i < length xs → j < length ys → (get_or xs i d).at + (get_or xs i d).len < (get_or ys j d).at) → AreApart (xs ++ ys)
apart_append xs ys h k cross = record {
  filled = All-append (λ s. 0 < s.len) xs ys h.filled k.filled;
  apart = λ i j d before below.
      elim (cases_lt j (length xs)) [
        | inl first ↦ rw (get_or_append_left xs ys d i (omega arith), get_or_append_left xs ys d j first) (h.apart i j d before first)
        | inr second ↦ elim (cases_lt i (length xs)) [
          | inl first ↦ rw (get_or_append_left xs ys d i first, get_or-append_right xs ys (length xs) j d refl second) (cross i (j - length xs) d first (omega (arith, length-append xs ys)))
          | inr both ↦ rw (get_or-append_right xs ys (length xs) i d refl both, get_or-append_right xs ys (length xs) j d refl second) (k.apart (i - length xs) (j - length xs) d (omega arith) (omega (arith, length-append xs ys)))
        ]
      ];
}

-- the spans from one place to another
abbrev pub middle : List Span → ℕ → ℕ → List Span
middle spans from to = take (to - from) (drop from spans)

pub IsCover-middle : (spans : List Span) (from to : ℕ) → IsCover spans → IsCover (middle spans from to)
IsCover-middle spans from to h = record {
  apart = apart_take (to - from) (drop from spans) (apart_drop from spans h.apart);
  bounded = All-take (λ s. s.at + s.len ≤ 2 ^ 44) (to - from) (drop from spans) (All-drop (λ s. s.at + s.len ≤ 2 ^ 44) from spans h.bounded);
}

-- the spans from one place to another each have what those places' spans have
pub middle_all : (P : Span → Type 0) (spans : List Span) (from to : ℕ) → ((k : ℕ) (d : Span) → from ≤ k → k < to → k < length spans → P (get_or spans k d)) → All P (middle spans from to)
middle_all P spans from to h k d below =
    let within : (k < to - from) × (k < length (drop from spans)) = below_take (to - from) k (drop from spans) below in
    rw (get_or-take (to - from) (drop from spans) k d within.0, get_or-drop from spans k d)
    (h (from + k) d (omega arith) (omega arith) (below_drop from k spans within.1))

pub parts : (spans : List Span) (from to : ℕ) → from ≤ to → (take from spans ++ middle spans from to) ++ drop to spans ≡ spans
parts spans from to le =
    let rest : drop (to - from) (drop from spans) ≡ drop to spans = drop-drop (to - from) from spans ∙ ap (λ (n : ℕ). drop n spans) (omega arith) in
    append_assoc (take from spans) (middle spans from to) (drop to spans) ∙ ap (λ (r : List Span). take from spans ++ (middle spans from to ++ r)) (sym rest)
    ∙ ap (λ (r : List Span). take from spans ++ r) (take-append-drop (to - from) (drop from spans)) ∙ take-append-drop from spans

-- ---- a middle that is replaced
-- an offset far enough from the spans around a middle
pub record IsClear (spans : List Span) (from to o : ℕ) : Type 0 where
  pub before : (k : ℕ) (d : Span) → k < from → (get_or spans k d).at + (get_or spans k d).len < o
  pub behind : (k : ℕ) (d : Span) → to ≤ k → k < length spans → o + 1 < (get_or spans k d).at
  pub small : o < 2 ^ 44

pub IsCover-replaced : (old by : List Span) (from to : ℕ) → IsCover old → from ≤ to → to ≤ length old → AreApart by → ((o : ℕ) → covers by o ≡ true → IsClear old from to o) → IsCover ((take from old ++ by) ++ drop to old)
IsCover-replaced old by from to h le within h' clear =
    let first : (j : ℕ) (d : Span) → j < length by → IsClear old from to (get_or by j d).at =
    λ j d below. let some : 0 < (get_or by j d).len = h'.filled j d below in clear (get_or by j d).at (covers_at by j (get_or by j d).at d below (omega arith) (omega arith)) in
    let last : (j : ℕ) (d : Span) → j < length by → IsClear old from to ((get_or by j d).at + (get_or by j d).len - 1) =
    λ j d below. let some : 0 < (get_or by j d).len = h'.filled j d below in clear ((get_or by j d).at + (get_or by j d).len - 1) (covers_at by j ((get_or by j d).at + (get_or by j d).len - 1) d below (omega arith) (omega arith)) in
    let front : AreApart (take from old ++ by) =
    apart_append (take from old) by (apart_take from old h.apart) h' (λ i j d below below'.
    let place : (i < from) × (i < length old) = below_take from i old below in
    rw (get_or-take from old i d place.0) ((first j d below').before i d place.0)) in
    record {
      apart = apart_append (take from old ++ by) (drop to old) front (apart_drop to old h.apart) (λ i j d below below'.
          let place : to + j < length old = below_drop to j old below' in
          rw (get_or-drop to old j d)
          (elim (cases_lt i (length (take from old))) [
            | inl in_front ↦
                let place' : (i < from) × (i < length old) = below_take from i old in_front in
                rw (get_or_append_left (take from old) by d i in_front, get_or-take from old i d place'.0) (h.apart.apart i (to + j) d (omega arith) place)
            | inr in_by ↦
                let i' : i - length (take from old) < length by = omega (arith, length-append (take from old) by) in
                let some : 0 < (get_or by (i - length (take from old)) d).len = h'.filled (i - length (take from old)) d i' in
                let far : (get_or by (i - length (take from old)) d).at + (get_or by (i - length (take from old)) d).len - 1 + 1 < (get_or old (to + j) d).at = (last (i - length (take from old)) d i').behind (to + j) d (omega arith) place in
                rw (get_or-append_right (take from old) by (length (take from old)) i d refl in_by) (omega arith)
          ]));
      bounded = All-append (λ s. s.at + s.len ≤ 2 ^ 44) (take from old ++ by) (drop to old)
          (All-append (λ s. s.at + s.len ≤ 2 ^ 44) (take from old) by (All-take (λ s. s.at + s.len ≤ 2 ^ 44) from old h.bounded)
          (λ j d below. let some : 0 < (get_or by j d).len = h'.filled j d below in let end : (get_or by j d).at + (get_or by j d).len - 1 < 2 ^ 44 = (last j d below).small in omega arith))
          (All-drop (λ s. s.at + s.len ≤ 2 ^ 44) to old h.bounded);
    }

-- an offset of the middle is clear of the rest
pub middle_clear : (spans : List Span) (from to o : ℕ) → IsCover spans → from ≤ to → to ≤ length spans → covers (middle spans from to) o ≡ true → IsClear spans from to o
middle_clear spans from to o h le within c =
    let it : Holder (middle spans from to) o = holder (middle spans from to) o c in
    let place : (it.place < to - from) × (it.place < length (drop from spans)) = below_take (to - from) it.place (drop from spans) it.within in
    let below : from + it.place < length spans = below_drop from it.place spans place.1 in
    let same : (d : Span) → get_or spans (from + it.place) d ≡ it.span =
    λ d. sym (get_or-take (to - from) (drop from spans) it.place d place.0 ∙ get_or-drop from spans it.place d) ∙ it.is d in
    record {
      before = λ k d k<. let far : (get_or spans k d).at + (get_or spans k d).len < it.span.at = rw (← same d) (h.apart.apart k (from + it.place) d (omega arith) below) in omega (arith, it.low);
      behind = λ k d >k k<. let far : it.span.at + it.span.len < (get_or spans k d).at = rw (← same d) (h.apart.apart (from + it.place) k d (omega arith) k<) in omega (arith, it.high);
      small = let end : it.span.at + it.span.len ≤ 2 ^ 44 = rw (← same it.span) (h.bounded (from + it.place) it.span below) in omega (arith, it.high);
    }

-- ---- what the replaced list covers
pub covers-parts : (xs ys zs : List Span) (o : ℕ) → covers ((xs ++ ys) ++ zs) o ≡ (covers xs o || covers ys o || covers zs o)
covers-parts xs ys zs o =
    list_any-append (λ s. has s o) (xs ++ ys) zs ∙ ap (λ (b : Bool). b || covers zs o) (list_any-append (λ s. has s o) xs ys)

pub true≢false : true ≡ false → ⊥
true≢false h = cc

more_middle : (t m s d : Bool) → (t || (m || s) || d) ≡ ((t || m || d) || s)
more_middle true m s d = refl
more_middle false true s d = refl
more_middle false false true true = refl
more_middle false false true false = refl
more_middle false false false true = refl
more_middle false false false false = refl

pub HasMore-replaced : (old by : List Span) (s : Span) (from to : ℕ) → from ≤ to → ((o : ℕ) → covers by o ≡ (covers (middle old from to) o || has s o)) → HasMore old s ((take from old ++ by) ++ drop to old)
HasMore-replaced old by s from to le exact o =
    covers-parts (take from old) by (drop to old) o
    ∙ ap (λ (b : Bool). covers (take from old) o || b || covers (drop to old) o) (exact o)
    ∙ more_middle (covers (take from old) o) (covers (middle old from to) o) (has s o) (covers (drop to old) o)
    ∙ ap (λ (b : Bool). b || has s o) (sym (covers-parts (take from old) (middle old from to) (drop to old) o) ∙ ap (λ (l : List Span). covers l o) (parts old from to le))

less_middle : (t m s d : Bool) → (s ≡ true → t ≡ false) → (s ≡ true → d ≡ false) → (t || (m && not s) || d) ≡ ((t || m || d) && not s)
less_middle true m true d f g = absurd (true≢false (f refl))
less_middle false m true true f g = absurd (true≢false (g refl))
less_middle false true true false f g = refl
less_middle false false true false f g = refl
less_middle true m false d f g = refl
less_middle false true false d f g = refl
less_middle false false false true f g = refl
less_middle false false false false f g = refl

pub HasLess-replaced : (old by : List Span) (s : Span) (from to : ℕ) → from ≤ to → ((o : ℕ) → covers by o ≡ (covers (middle old from to) o && not (has s o))) → ((k : ℕ) (d : Span) → k < from → (get_or old k d).at + (get_or old k d).len ≤ s.at) → ((k : ℕ) (d : Span) → to ≤ k → k < length old → s.at + s.len ≤ (get_or old k d).at) → HasLess old s ((take from old ++ by) ++ drop to old)
HasLess-replaced old by s from to le exact before behind o =
    let none_before : has s o ≡ true → covers (take from old) o ≡ false =
    λ h. let inside : (s.at ≤ o) × (o < s.at + s.len) = in_has s o h in
    covers_none (take from old) o (λ k d below.
    let place : (k < from) × (k < length old) = below_take from k old below in
    rw (get_or-take from old k d place.0) (has_out (get_or old k d) o (inr (omega (arith, before k d place.0))))) in
    let none_behind : has s o ≡ true → covers (drop to old) o ≡ false =
    λ h. let inside : (s.at ≤ o) × (o < s.at + s.len) = in_has s o h in
    covers_none (drop to old) o (λ k d below.
    let place : to + k < length old = below_drop to k old below in
    rw (get_or-drop to old k d) (has_out (get_or old (to + k) d) o (inl (omega (arith, behind (to + k) d (omega arith) place))))) in
    covers-parts (take from old) by (drop to old) o
    ∙ ap (λ (b : Bool). covers (take from old) o || b || covers (drop to old) o) (exact o)
    ∙ less_middle (covers (take from old) o) (covers (middle old from to) o) (has s o) (covers (drop to old) o) none_before none_behind
    ∙ ap (λ (b : Bool). b && not (has s o)) (sym (covers-parts (take from old) (middle old from to) (drop to old) o) ∙ ap (λ (l : List Span). covers l o) (parts old from to le))
