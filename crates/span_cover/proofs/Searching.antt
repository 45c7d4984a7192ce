-- Where a span stands among those of a cover.
use Rattle.std.proofs.Common.{◌≡◌, ℕ, ◌+◌, ◌-◌, ◌^◌, ◌<◌, ◌≤◌, min, List, length, get_or, max, Bool, true, false, not, ◌||◌, ◌&&◌, ◌↔◌, ltb, inl, inr, refl, sym, ◌∙◌, arith}
use Rattle.std.proofs.lemmas.Bool.{cases_lt, ltb-false, ltb-true}
use Rattle.std.proofs.lemmas.Bool.Decides.{nat_tests}
use Rattle.std.specs.Prelude.{All, IsTrue, ◌==◌}
use Rattle.std.specs.List.Sorted.{IsNonDecreasingBy, IsPartitionPoint}
use Rattle.base_fields.specs.declared.spans.Span.{Span}
use Rattle.span_cover.specs.Cover.{IsCover, Meets, covers, has}
use Rattle.span_cover.proofs.Spans.{Holder, covers_at, either, has_in, has_out, holder, in_has, or_left, or_right, same_bool, true≢false}

pub begins_rise : (spans : List Span) → IsCover spans → IsNonDecreasingBy (λ s. s.at) spans
begins_rise spans h i j d le below =
    elim (cases_lt i j) [ inl before ↦ omega (arith, h.apart.apart i j d before below) | inr same ↦ let e : i ≡ j = omega arith in rw e (omega arith) ]

pub ends_rise : (spans : List Span) → IsCover spans → IsNonDecreasingBy (λ s. min (s.at + s.len) (2 ^ 64 - 1)) spans
ends_rise spans h i j d le below =
    elim (cases_lt i j) [ inl before ↦ omega (arith, h.apart.apart i j d before below) | inr same ↦ let e : i ≡ j = omega arith in rw e (omega arith) ]

pub ends_rise' : (spans : List Span) → IsCover spans → (i j : ℕ) (d : Span) → i ≤ j → j < length spans → (get_or spans i d).at + (get_or spans i d).len ≤ (get_or spans j d).at + (get_or spans j d).len
ends_rise' spans h i j d le below =
    elim (cases_lt i j) [ inl before ↦ omega (arith, h.apart.apart i j d before below) | inr same ↦ let e : i ≡ j = omega arith in rw e (omega arith) ]

both : (a b : Bool) → a ≡ true → b ≡ false → (a && not b) ≡ true
both true false h k = refl
both true true h k = sym k
both false b h k = h

each_of : (a b : Bool) → (a && not b) ≡ true → (a ≡ true) × (b ≡ false)
each_of true false h = (refl, refl)
each_of true true h = (refl, sym h)
each_of false b h = absurd (true≢false (sym h))

pub point_from_ends : (spans : List Span) (at i : ℕ) → IsCover spans → IsPartitionPoint (λ s. ltb (min (s.at + s.len) (2 ^ 64 - 1)) at ≡ true) (λ s. ltb (min (s.at + s.len) (2 ^ 64 - 1)) at ≡ false) spans i → i ≤ length spans → at < 2 ^ 64 → IsPartitionPoint (λ s. s.at + s.len < at) (λ s. at ≤ s.at + s.len) spans i
point_from_ends spans at i h point bound fits = (
  λ k d low high. let end : (get_or spans k d).at + (get_or spans k d).len ≤ 2 ^ 44 = h.bounded k d (omega arith) in
      let less : min ((get_or spans k d).at + (get_or spans k d).len) (2 ^ 64 - 1) < at = ltb-true _ _ (point.0 k d low high) in omega arith,
  λ k d low high. let more : at ≤ min ((get_or spans k d).at + (get_or spans k d).len) (2 ^ 64 - 1) = ltb-false _ _ (point.1 k d low high) in omega arith,
)

pub point_from_begins : (spans : List Span) (at i : ℕ) → IsPartitionPoint (λ s. ltb s.at at ≡ true) (λ s. ltb s.at at ≡ false) spans i → IsPartitionPoint (λ s. s.at < at) (λ s. at ≤ s.at) spans i
point_from_begins spans at i point =
    (λ k d low high. ltb-true _ _ (point.0 k d low high), λ k d low high. ltb-false _ _ (point.1 k d low high))

-- a place among the ends is not past the place among the beginnings of a later offset
pub places_ordered : (spans : List Span) (a b from to : ℕ) → IsCover spans → a ≤ b → from ≤ length spans → IsPartitionPoint (λ s. s.at + s.len < a) (λ s. a ≤ s.at + s.len) spans from → IsPartitionPoint (λ s. s.at < b) (λ s. b ≤ s.at) spans to → from ≤ to
places_ordered spans a b from to h le bound ends begins =
    elim (cases_lt to from) [
      | inl before ↦ let nothing : Span = record { at = 0; len = 0 } in
          absurd (omega (arith, ends.0 to nothing (omega arith) before, begins.1 to nothing (omega arith) (omega arith)))
      | inr fine ↦ fine
    ]

-- the first span that doesn't end before an offset of a span decides whether one has an offset of it
pub meets_at : (spans : List Span) (s : Span) (i : ℕ) (d : Span) → IsCover spans → IsPartitionPoint (λ x. x.at + x.len < s.at + 1) (λ x. s.at + 1 ≤ x.at + x.len) spans i → 0 < s.len → i < length spans → ((get_or spans i d).at < s.at + s.len) ↔ Meets spans s
meets_at spans s i d h point some below =
    let late : s.at + 1 ≤ (get_or spans i d).at + (get_or spans i d).len = point.1 i d (omega arith) below in
    let filled : 0 < (get_or spans i d).len = h.apart.filled i d below in (
      λ near. (max s.at (get_or spans i d).at, covers_at spans i (max s.at (get_or spans i d).at) d below (omega arith) (omega arith), has_in s (max s.at (get_or spans i d).at) (omega arith) (omega arith)),
      λ m.
          let it : Holder spans m.0 = holder spans m.0 m.1 in
          let inside : (s.at ≤ m.0) × (m.0 < s.at + s.len) = in_has s m.0 m.2 in
          let same : get_or spans it.place d ≡ it.span = it.is d in
          let from_there : i ≤ it.place = elim (cases_lt it.place i) [ inl before ↦ absurd (let early : (get_or spans it.place d).at + (get_or spans it.place d).len < s.at + 1 = point.0 it.place d (omega arith) before in let early' : it.span.at + it.span.len < s.at + 1 = rw (← same) early in omega (arith, it.high)) | inr fine ↦ fine ] in
          let rise : (get_or spans i d).at ≤ (get_or spans it.place d).at = begins_rise spans h i it.place d from_there it.within in
          let rise' : (get_or spans i d).at ≤ it.span.at = rw (← same) rise in
          omega (arith, it.low),
    )

pub meets_none : (spans : List Span) (s : Span) (i : ℕ) → IsPartitionPoint (λ x. x.at + x.len < s.at + 1) (λ x. s.at + 1 ≤ x.at + x.len) spans i → length spans ≤ i → Meets spans s → ⊥
meets_none spans s i point none m =
    let it : Holder spans m.0 = holder spans m.0 m.1 in
    let inside : (s.at ≤ m.0) × (m.0 < s.at + s.len) = in_has s m.0 m.2 in
    let early : (get_or spans it.place it.span).at + (get_or spans it.place it.span).len < s.at + 1 = point.0 it.place it.span (omega arith) (omega (arith, it.within)) in
    let early' : it.span.at + it.span.len < s.at + 1 = rw (← it.is it.span) early in
    omega (arith, it.high)

-- ---- one span of several
pub hull_exact : (near : List Span) (s whole d : Span) → IsCover near → All (λ x. (s.at ≤ x.at + x.len) × (x.at ≤ s.at + s.len)) near → 0 < length near → whole.at ≡ min s.at (get_or near 0 d).at → whole.at + whole.len ≡ max (s.at + s.len) ((get_or near (length near - 1) d).at + (get_or near (length near - 1) d).len) → (o : ℕ) → has whole o ≡ (covers near o || has s o)
hull_exact near s whole d h adjoin some low high o =
    let first : (s.at ≤ (get_or near 0 d).at + (get_or near 0 d).len) × ((get_or near 0 d).at ≤ s.at + s.len) = adjoin 0 d some in
    let last : (s.at ≤ (get_or near (length near - 1) d).at + (get_or near (length near - 1) d).len) × ((get_or near (length near - 1) d).at ≤ s.at + s.len) = adjoin (length near - 1) d (omega arith) in
    same_bool (has whole o) (covers near o || has s o)
    (λ c.
    let inside : (whole.at ≤ o) × (o < whole.at + whole.len) = in_has whole o c in
    elim (cases_lt o s.at) [
      | inl before ↦ or_left (covers near o) (has s o) (covers_at near 0 o d some (omega arith) (omega arith))
      | inr from_there ↦ elim (cases_lt o (s.at + s.len)) [
        | inl there ↦ or_right (covers near o) (has s o) (has_in s o from_there there)
        | inr behind ↦ or_left (covers near o) (has s o) (covers_at near (length near - 1) o d (omega arith) (omega arith) (omega arith))
      ]
    ])
    (λ c. elim (either (covers near o) (has s o) c) [
      | inl c' ↦
          let it : Holder near o = holder near o c' in
          let same : get_or near it.place d ≡ it.span = it.is d in
          let rise : (get_or near 0 d).at ≤ it.span.at = rw (← same) (begins_rise near h 0 it.place d (omega arith) it.within) in
          let fall : it.span.at + it.span.len ≤ (get_or near (length near - 1) d).at + (get_or near (length near - 1) d).len = rw (← same) (ends_rise' near h it.place (length near - 1) d (omega (arith, it.within)) (omega arith)) in
          has_in whole o (omega (arith, it.low)) (omega (arith, it.high))
      | inr c' ↦ let inside : (s.at ≤ o) × (o < s.at + s.len) = in_has s o c' in has_in whole o (omega arith) (omega arith)
    ])

pub sides_exact : (met : List Span) (s before behind d : Span) → IsCover met → All (λ x. (s.at < x.at + x.len) × (x.at < s.at + s.len)) met → 0 < length met → before.at ≡ (get_or met 0 d).at → before.len ≡ s.at - (get_or met 0 d).at → behind.at ≡ s.at + s.len → behind.len ≡ (get_or met (length met - 1) d).at + (get_or met (length met - 1) d).len - (s.at + s.len) → (o : ℕ) → (has before o || (has behind o || false)) ≡ (covers met o && not (has s o))
sides_exact met s before behind d h meet some b1 b2 b3 b4 o =
    let first : (s.at < (get_or met 0 d).at + (get_or met 0 d).len) × ((get_or met 0 d).at < s.at + s.len) = meet 0 d some in
    let last : (s.at < (get_or met (length met - 1) d).at + (get_or met (length met - 1) d).len) × ((get_or met (length met - 1) d).at < s.at + s.len) = meet (length met - 1) d (omega arith) in
    same_bool (has before o || (has behind o || false)) (covers met o && not (has s o))
    (λ c. elim (either (has before o) (has behind o || false) c) [
      | inl c' ↦
          let inside : (before.at ≤ o) × (o < before.at + before.len) = in_has before o c' in
          both (covers met o) (has s o) (covers_at met 0 o d some (omega arith) (omega arith)) (has_out s o (inl (omega arith)))
      | inr c' ↦ elim (either (has behind o) false c') [
        | inl c'' ↦
            let inside : (behind.at ≤ o) × (o < behind.at + behind.len) = in_has behind o c'' in
            both (covers met o) (has s o) (covers_at met (length met - 1) o d (omega arith) (omega arith) (omega arith)) (has_out s o (inr (omega arith)))
        | inr c'' ↦ absurd (true≢false (sym c''))
      ]
    ])
    (λ c.
    let each : (covers met o ≡ true) × (has s o ≡ false) = each_of (covers met o) (has s o) c in
    let it : Holder met o = holder met o each.0 in
    let same : get_or met it.place d ≡ it.span = it.is d in
    let rise : (get_or met 0 d).at ≤ it.span.at = rw (← same) (begins_rise met h 0 it.place d (omega arith) it.within) in
    let fall : it.span.at + it.span.len ≤ (get_or met (length met - 1) d).at + (get_or met (length met - 1) d).len = rw (← same) (ends_rise' met h it.place (length met - 1) d (omega (arith, it.within)) (omega arith)) in
    elim (cases_lt o s.at) [
      | inl early ↦ or_left (has before o) (has behind o || false) (has_in before o (omega (arith, it.low)) (omega (arith, it.low)))
      | inr from_there ↦ elim (cases_lt o (s.at + s.len)) [
        | inl there ↦ absurd (true≢false (sym (has_in s o from_there there) ∙ each.1))
        | inr late ↦ or_right (has before o) (has behind o || false) (or_left (has behind o) false (has_in behind o (omega (arith, it.high)) (omega (arith, it.high))))
      ]
    ])

pub positive : (n : ℕ) → (n == 0) ≡ false → 0 < n
positive n h = grind (arith, nat_tests)

test_of : (a b : ℕ) → a < b → ltb a b ≡ true
test_of a b h = grind (arith, nat_tests)

pub meets_test : (spans : List Span) (s : Span) (i : ℕ) (d : Span) → IsCover spans → IsPartitionPoint (λ x. x.at + x.len < s.at + 1) (λ x. s.at + 1 ≤ x.at + x.len) spans i → 0 < s.len → i < length spans → IsTrue (ltb (get_or spans i d).at (s.at + s.len)) ↔ Meets spans s
meets_test spans s i d h point some below =
    let same : ((get_or spans i d).at < s.at + s.len) ↔ Meets spans s = meets_at spans s i d h point some below in
    (λ t. same.0 (ltb-true _ _ t), λ m. test_of (get_or spans i d).at (s.at + s.len) (same.1 m))

pub meets_empty : (spans : List Span) (s : Span) → s.len ≡ 0 → Meets spans s → ⊥
meets_empty spans s empty m = let inside : (s.at ≤ m.0) × (m.0 < s.at + s.len) = in_has s m.0 m.2 in omega arith
