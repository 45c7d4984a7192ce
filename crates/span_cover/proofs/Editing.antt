-- What an insertion and a cut leave of a cover.
use Rattle.std.proofs.Common.{◌≡◌, ℕ, ◌+◌, ◌-◌, ◌^◌, ◌<◌, ◌≤◌, List, [], ◌∷◌, ◌++◌, length, take, drop, Bool, true, false, not, ◌||◌, ◌&&◌, inl, inr, refl, sym, ◌∙◌, arith, length-append, length-drop, length-take}
use Rattle.std.proofs.lemmas.Bool.{cases_lt}
use Rattle.std.specs.List.Sorted.{IsPartitionPoint}
use Rattle.std.specs.Prelude.{Result, Ok, Err, OnOk, OnErr}
use Rattle.base_fields.specs.declared.spans.Span.{Span}
use Rattle.span_cover.specs.Cover.{AreApart, HasLess, HasMore, IsCover, covers, has}
use Rattle.span_cover.proofs.Spans.{HasLess-replaced, HasMore-replaced, Holder, IsCover-replaced, either, holder, in_has, middle, middle_clear}

-- a change that leaves the list as it was where it fails
pub settled : {T E : Type 0} (r : Result T E) (P : List Span → Type 0) (old new target : List Span) → OnOk r (new ≡ target) → OnErr r (new ≡ old) → P old → P target → P new
settled (Ok x) P old new target ok err before after = rw ok after
settled (Err e) P old new target ok err before after = rw err before

pub on_ok : {T E : Type 0} (r : Result T E) (P : List Span → Type 0) (new target : List Span) → OnOk r (new ≡ target) → P target → OnOk r (P new)
on_ok (Ok x) P new target ok after = rw ok after
on_ok (Err e) P new target ok after = tt

or-false : (a : Bool) → (a || false) ≡ a
or-false true = refl
or-false false = refl

-- a list of one
one_apart : (s : Span) → 0 < s.len → AreApart (s ∷ [])
one_apart s some = record {
  filled = λ k d below. let first : k ≡ 0 = omega arith in rw first some;
  apart = λ i j d before below. absurd (omega arith);
}

pub IsCover-inserted : (old : List Span) (s whole : Span) (from to : ℕ) → IsCover old → s.at + s.len ≤ 2 ^ 44 → from ≤ to → to ≤ length old → IsPartitionPoint (λ x. x.at + x.len < s.at) (λ x. s.at ≤ x.at + x.len) old from → IsPartitionPoint (λ x. x.at < s.at + s.len + 1) (λ x. s.at + s.len + 1 ≤ x.at) old to → 0 < whole.len → ((o : ℕ) → has whole o ≡ (covers (middle old from to) o || has s o)) → IsCover ((take from old ++ whole ∷ []) ++ drop to old)
IsCover-inserted old s whole from to h bounded le within low high some exact =
    IsCover-replaced old (whole ∷ []) from to h le within (one_apart whole some)
    (λ o c. elim (either (covers (middle old from to) o) (has s o) (sym (exact o) ∙ sym (or-false (has whole o)) ∙ c)) [
      | inl mid ↦ middle_clear old from to o h le within mid
      | inr own ↦
          let inside : (s.at ≤ o) × (o < s.at + s.len) = in_has s o own in
          record {
            before = λ k d k<. omega (arith, low.0 k d (omega arith) k<);
            behind = λ k d >k k<. omega (arith, high.1 k d >k k<);
            small = omega arith;
          }
    ])

pub HasMore-inserted : (old : List Span) (s whole : Span) (from to : ℕ) → from ≤ to → ((o : ℕ) → has whole o ≡ (covers (middle old from to) o || has s o)) → HasMore old s ((take from old ++ whole ∷ []) ++ drop to old)
HasMore-inserted old s whole from to le exact = HasMore-replaced old (whole ∷ []) s from to le (λ o. or-false (has whole o) ∙ exact o)

left_both : (a b : Bool) → (a && b) ≡ true → a ≡ true
left_both true b h = refl
left_both false b h = h

pub IsCover-cut : (old by : List Span) (s : Span) (from to : ℕ) → IsCover old → from ≤ to → to ≤ length old → AreApart by → ((o : ℕ) → covers by o ≡ (covers (middle old from to) o && not (has s o))) → IsCover ((take from old ++ by) ++ drop to old)
IsCover-cut old by s from to h le within apart exact =
    IsCover-replaced old by from to h le within apart
    (λ o c. middle_clear old from to o h le within (left_both (covers (middle old from to) o) (not (has s o)) (sym (exact o) ∙ c)))

pub HasLess-cut : (old by : List Span) (s : Span) (from to : ℕ) → from ≤ to → IsPartitionPoint (λ x. x.at + x.len < s.at + 1) (λ x. s.at + 1 ≤ x.at + x.len) old from → IsPartitionPoint (λ x. x.at < s.at + s.len) (λ x. s.at + s.len ≤ x.at) old to → ((o : ℕ) → covers by o ≡ (covers (middle old from to) o && not (has s o))) → HasLess old s ((take from old ++ by) ++ drop to old)
HasLess-cut old by s from to le low high exact =
    HasLess-replaced old by s from to le exact (λ k d k<. omega (arith, low.0 k d (omega arith) k<)) (λ k d >k k<. high.1 k d >k k<)

apart_test : (a b : Bool) → (a ≡ true → b ≡ true → ⊥) → a ≡ (a && not b)
apart_test true true never = absurd (never refl refl)
apart_test true false never = refl
apart_test false b never = refl

-- no span is met
pub HasLess-none : (old : List Span) (s : Span) (from : ℕ) → IsPartitionPoint (λ x. x.at + x.len < s.at + 1) (λ x. s.at + 1 ≤ x.at + x.len) old from → IsPartitionPoint (λ x. x.at < s.at + s.len) (λ x. s.at + s.len ≤ x.at) old from → HasLess old s old
HasLess-none old s from low high o = apart_test (covers old o) (has s o) (λ c own.
    let it : Holder old o = holder old o c in
    let inside : (s.at ≤ o) × (o < s.at + s.len) = in_has s o own in
    elim (cases_lt it.place from) [
      | inl before ↦ let early : it.span.at + it.span.len < s.at + 1 = rw (← it.is it.span) (low.0 it.place it.span (omega arith) before) in omega (arith, it.high)
      | inr behind ↦ let late : s.at + s.len ≤ it.span.at = rw (← it.is it.span) (high.1 it.place it.span behind it.within) in omega (arith, it.low)
    ])

-- how many spans there are then
pub length-replaced : (old by : List Span) (from to : ℕ) → from ≤ to → to ≤ length old → length ((take from old ++ by) ++ drop to old) + (to - from) ≡ length old + length by
length-replaced old by from to le within =
    omega (arith, length-append (take from old ++ by) (drop to old), length-append (take from old) by, length-take from old, length-drop to old)
