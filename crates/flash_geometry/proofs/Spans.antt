-- Spans that share an offset, and the first of several that a further one meets.
use Rattle.std.specs.Prelude.{◌≡◌, ℕ, zero, suc, ◌-◌, ◌^◌, ◌<◌, ◌≤◌, ◌&&◌, ◌||◌, max, min, Bool, true, false, All, List, [], ◌∷◌, ◌++◌, Option, Some, None, cond, length, nat_lt, not}
use Rattle.std.specs.List.{position, position_or_len}
use Rattle.std.proofs.Common.{refl, ap, sym, ◌∙◌, arith, get_or}
use Rattle.std.proofs.lemmas.Bool.{ltb-false, ltb-true, not-true}
use Rattle.std.proofs.lemmas.Bool.Decides.{Decides-and, Decides-like, Decides-ltb, same_from_decides}
use Rattle.std.proofs.lemmas.List.Folds.{list_any-append}
use Rattle.std.proofs.lemmas.List.Quantifiers.{position-Some}
use Rattle.std.proofs.lemmas.List.Sums.{prefix_len_passes}
use Rattle.base_fields.specs.declared.spans.Span.{Span}
use Rattle.span_cover.specs.Cover.{HasMore, Meets, covers, has}
use Rattle.span_cover.proofs.Spans.{covers_at, has_in, in_has}
use Rattle.flash_geometry.specs.Places.{last_end, span_end}
use Rattle.flash_geometry.specs.Taken.{AreTaken, first_met, shares, within_most}

-- ---- ends

pub ends_within : (ss : List Span) (k : ℕ) (d : Span) → k < length ss → span_end (get_or ss k d) ≤ last_end ss
ends_within [] k d h = absurd (omega arith)
ends_within (s ∷ ss) zero d h = omega arith
ends_within (s ∷ ss) (suc k) d h = let more = ends_within ss k d (omega arith) in omega arith

pub last-push : (ss : List Span) (s : Span) → last_end (ss ++ s ∷ []) ≡ max (last_end ss) (span_end s)
last-push [] s = omega arith
last-push (t ∷ ss) s = let more = last-push ss s in omega arith

-- ---- two spans

-- each begins before the other's last byte is passed
pub shares_by_gaps : (s t : Span) → (nat_lt (t.at - s.at) s.len && nat_lt (s.at - t.at) t.len) ≡ shares s t
shares_by_gaps s t =
    same_from_decides (nat_lt (t.at - s.at) s.len && nat_lt (s.at - t.at) t.len) (shares s t)
    (Decides-like (nat_lt (t.at - s.at) s.len && nat_lt (s.at - t.at) t.len) both one (Decides-and _ _ (Decides-ltb (t.at - s.at) s.len) (Decides-ltb (s.at - t.at) t.len)))
    (Decides-ltb (max s.at t.at) (min (span_end s) (span_end t)))
  where
    both : (t.at - s.at < s.len) × (s.at - t.at < t.len) → max s.at t.at < min (span_end s) (span_end t)
    both h = omega arith

    one : max s.at t.at < min (span_end s) (span_end t) → (t.at - s.at < s.len) × (s.at - t.at < t.len)
    one h = (omega arith, omega arith)

pub apart_from : (s t : Span) (o : ℕ) → shares s t ≡ false → has s o ≡ true → has t o ≡ true → ⊥
apart_from s t o none in_s in_t =
    let low : min (span_end s) (span_end t) ≤ max s.at t.at = ltb-false _ _ none in
    let first = in_has s o in_s in
    let second = in_has t o in_t in
    omega arith

-- a span that shares an offset with one below 2^43 has an offset of it below 2^43
not_shared : (s t : Span) → span_end t ≤ 2 ^ 43 → ((o : ℕ) → has t o ≡ true → has (within_most s) o ≡ true → ⊥) → shares s t ≡ false
not_shared s t below apart = by_case (shares s t) refl
  where
    by_case : (b : Bool) → shares s t ≡ b → shares s t ≡ false
    by_case false h = h
    by_case true h =
        let low : max s.at t.at < min (span_end s) (span_end t) = ltb-true _ _ h in
        absurd (apart (max s.at t.at) (has_in t (max s.at t.at) (omega arith) (omega arith)) (has_in (within_most s) (max s.at t.at) (omega arith) (omega arith)))

-- ---- the first that passes

pub none_passes : (p : Span → Bool) (ss : List Span) (d : Span) → All (λ s. p s ≡ false) ss → position p ss ≡ None
none_passes p ss d none = by_case (position p ss) refl
  where
    by_case : (o : Option ℕ) → position p ss ≡ o → position p ss ≡ None
    by_case None h = h
    by_case (Some k) h =
        let found = position-Some p ss k d h in
        let fails : p (get_or ss k d) ≡ false = none k d found.0 in
        let passes : p (get_or ss k d) ≡ true = found.1 in
        cc

pub all_fail : (p : Span → Bool) (ss : List Span) → position p ss ≡ None → All (λ s. p s ≡ false) ss
all_fail p ss h = by_case (nat_lt (position_or_len p ss) (length ss)) refl
  where
    by_case : (b : Bool) → nat_lt (position_or_len p ss) (length ss) ≡ b → All (λ s. p s ≡ false) ss
    by_case true some =
        let found : position p ss ≡ Some (position_or_len p ss) = ap (λ b. cond b (Some (position_or_len p ss)) None) some in
        let impossible : ⊥ = cc in
        absurd impossible
    by_case false none = λ k d below.
        let long : length ss ≤ position_or_len p ss = ltb-false _ _ none in
        not-true (p (get_or ss k d)) (prefix_len_passes (λ s. not (p s)) ss k d (omega arith))

-- ---- what is taken

pub taken_none : AreTaken [] [] 0
taken_none = record { same = λ o. refl; greatest = refl; bounded = omega arith }

or_false : (b : Bool) → (b || false) ≡ b
or_false true = refl
or_false false = refl

pub taken_more : (ss cover new : List Span) (last : ℕ) (s : Span) → AreTaken ss cover last → HasMore cover s new → span_end s ≤ 2 ^ 43 → AreTaken (ss ++ s ∷ []) new (max last (span_end s))
taken_more ss cover new last s taken more below = record {
  same = λ o.
      more o
      ∙ ap (λ b. b || has s o) (taken.same o)
      ∙ sym (list_any-append (λ t. has t o) ss (s ∷ []) ∙ ap (λ b. covers ss o || b) (or_false (has s o)));
  greatest = omega (arith, last-push ss s, taken.greatest);
  bounded = omega (arith, taken.bounded);
}

-- where a cover of them has no offset of what lies below 2^43, none of them has one
pub unmet : (ss cover : List Span) (last : ℕ) (s : Span) → AreTaken ss cover last → (Meets cover (within_most s) → ⊥) → first_met ss s ≡ None
unmet ss cover last s taken apart = none_passes (shares s) ss s (λ k d h.
    let ends = ends_within ss k d h in
    let below : span_end (get_or ss k d) ≤ 2 ^ 43 = omega (arith, taken.greatest, taken.bounded) in
    not_shared s (get_or ss k d) below (λ o in_t in_s.
    let inside = in_has (get_or ss k d) o in_t in
    apart (o, taken.same o ∙ covers_at ss k o d h inside.0 inside.1, in_s)))
