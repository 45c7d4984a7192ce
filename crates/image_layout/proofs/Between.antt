-- What holes leave of a run of bytes, as its pieces between the holes are added to a cover one after another.
use Rattle.std.specs.Prelude.{◌≡◌, ℕ, ◌+◌, ◌-◌, ◌^◌, ◌<◌, ◌≤◌, min, List, [], take, length, Bool, true, false, ◌&&◌, ◌||◌, not, nat_le, nat_lt}
use Rattle.std.proofs.Common.{refl, ◌∙◌, sym, ap, arith, inl, inr, get_or}
use Rattle.std.proofs.Math.Bool.{or_assoc}
use Rattle.std.proofs.lemmas.Bool.{cases_lt, le-leb, leb-true, lt-ltb, ltb-true}
use Rattle.std.proofs.lemmas.List.{get_or-take, get_or_default, length-take, take_all}
use Rattle.std.proofs.lemmas.List.Folds.{list_any_more}
use Rattle.base_fields.specs.declared.spans.Span.{Span}
use Rattle.span_cover.specs.Cover.{HasMore, covers, has}
use Rattle.span_cover.proofs.Spans.{covers_none, either, has_in, has_out, in_has, or_left, or_right, same_bool}
use Rattle.image_layout.specs.Covering.{Gains, is_left}
use Rattle.image_layout.specs.IsLayout.{AreHoles}

abbrev pub no_span : Span
no_span = record { at = 0; len = 0 }

-- ---- tests

both : (a b : Bool) → (a && b) ≡ true → (a ≡ true) × (b ≡ true)
both true b h = (refl, h)
both false b h = absurd (cc)

and_true : (a b : Bool) → a ≡ true → b ≡ true → (a && b) ≡ true
and_true true b first second = second
and_true false b first second = absurd (cc)

not_true : (c : Bool) → not c ≡ true → c ≡ false
not_true true h = absurd (cc)
not_true false h = refl

neither : (a b : Bool) → (a || b) ≡ false → (a ≡ false) × (b ≡ false)
neither true b h = absurd (cc)
neither false b h = (refl, h)

or_no : (a b : Bool) → a ≡ false → b ≡ false → (a || b) ≡ false
or_no true b first second = absurd (cc)
or_no false b first second = second

-- an offset of so many bytes from a place on, in none of some holes
record IsLeft (at reach o : ℕ) (c : Bool) : Type 0 where
  low : at ≤ o
  high : o < at + reach
  free : c ≡ false

in_left : (at reach o : ℕ) (c : Bool) → (nat_le at o && nat_lt o (at + reach) && not c) ≡ true → IsLeft at reach o c
in_left at reach o c h =
    let outer = both (nat_le at o && nat_lt o (at + reach)) (not c) h in
    let inner = both (nat_le at o) (nat_lt o (at + reach)) outer.0 in
    record { low = leb-true at o inner.0; high = ltb-true o (at + reach) inner.1; free = not_true c outer.1 }

left_in : (at reach o : ℕ) (c : Bool) → at ≤ o → o < at + reach → c ≡ false → (nat_le at o && nat_lt o (at + reach) && not c) ≡ true
left_in at reach o c low high free =
    and_true (nat_le at o && nat_lt o (at + reach)) (not c)
    (and_true (nat_le at o) (nat_lt o (at + reach)) (le-leb at o low) (lt-ltb o (at + reach) high)) (ap not free)

-- ---- one piece

-- the bytes between the end of the holes so far and the next hole
abbrev pub piece : ℕ → ℕ → ℕ → Span
piece at from to = record { at = at + from; len = to - from }

forth : (at reach from o : ℕ) (hole : Span) (c : Bool) → from ≤ hole.at → (from ≤ o - at → c ≡ false) → ((nat_le at o && nat_lt o (at + min from reach) && not c) || has (piece at from (min hole.at reach)) o) ≡ true → (nat_le at o && nat_lt o (at + min (hole.at + hole.len) reach) && not (c || has hole (o - at))) ≡ true
forth at reach from o hole c ahead free h = elim (either (nat_le at o && nat_lt o (at + min from reach) && not c) (has (piece at from (min hole.at reach)) o) h) [
  | inl before ↦
      let i : IsLeft at (min from reach) o c = in_left at (min from reach) o c before in
      left_in at (min (hole.at + hole.len) reach) o (c || has hole (o - at)) i.low (omega arith)
      (or_no c (has hole (o - at)) i.free (has_out hole (o - at) (inl (omega arith))))
  | inr own ↦
      let i = in_has (piece at from (min hole.at reach)) o own in
      let low : at + from ≤ o = i.0 in
      let high : o < at + from + (min hole.at reach - from) = i.1 in
      left_in at (min (hole.at + hole.len) reach) o (c || has hole (o - at)) (omega arith) (omega arith)
      (or_no c (has hole (o - at)) (free (omega arith)) (has_out hole (o - at) (inl (omega arith))))
]

before_hole : (hole : Span) (x : ℕ) → x < hole.at + hole.len → has hole x ≡ false → x < hole.at
before_hole hole x inside out = elim (cases_lt x hole.at) [
  | inl before ↦ before
  | inr within ↦ let own : has hole x ≡ true = has_in hole x within inside in absurd (cc)
]

back : (at reach from o : ℕ) (hole : Span) (c : Bool) → from ≤ hole.at → (nat_le at o && nat_lt o (at + min (hole.at + hole.len) reach) && not (c || has hole (o - at))) ≡ true → ((nat_le at o && nat_lt o (at + min from reach) && not c) || has (piece at from (min hole.at reach)) o) ≡ true
back at reach from o hole c ahead h =
    let i : IsLeft at (min (hole.at + hole.len) reach) o (c || has hole (o - at)) = in_left at (min (hole.at + hole.len) reach) o (c || has hole (o - at)) h in
    let out = neither c (has hole (o - at)) i.free in
    let short : o - at < hole.at = before_hole hole (o - at) (omega arith) out.1 in
    elim (cases_lt o (at + from)) [
      | inl before ↦ or_left (nat_le at o && nat_lt o (at + min from reach) && not c) (has (piece at from (min hole.at reach)) o)
          (left_in at (min from reach) o c i.low (omega arith) out.0)
      | inr behind ↦ or_right (nat_le at o && nat_lt o (at + min from reach) && not c) (has (piece at from (min hole.at reach)) o)
          (has_in (piece at from (min hole.at reach)) o behind (omega arith))
    ]

next_left : (at reach from o : ℕ) (hole : Span) (c : Bool) → from ≤ hole.at → (from ≤ o - at → c ≡ false) → ((nat_le at o && nat_lt o (at + min from reach) && not c) || has (piece at from (min hole.at reach)) o) ≡ (nat_le at o && nat_lt o (at + min (hole.at + hole.len) reach) && not (c || has hole (o - at)))
next_left at reach from o hole c ahead free = same_bool _ _ (forth at reach from o hole c ahead free) (back at reach from o hole c ahead)

-- the bytes behind the last hole
last_left : (at reach from o : ℕ) (c : Bool) → (from ≤ o - at → c ≡ false) → ((nat_le at o && nat_lt o (at + min from reach) && not c) || has (piece at from reach) o) ≡ (nat_le at o && nat_lt o (at + reach) && not c)
last_left at reach from o c free = same_bool _ _
    (λ h. elim (either (nat_le at o && nat_lt o (at + min from reach) && not c) (has (piece at from reach) o) h) [
      | inl before ↦ let i : IsLeft at (min from reach) o c = in_left at (min from reach) o c before in left_in at reach o c i.low (omega arith) i.free
      | inr own ↦
          let i = in_has (piece at from reach) o own in
          let low : at + from ≤ o = i.0 in
          let high : o < at + from + (reach - from) = i.1 in
          left_in at reach o c (omega arith) (omega arith) (free (omega arith))
    ])
    (λ h. let i : IsLeft at reach o c = in_left at reach o c h in
    elim (cases_lt o (at + from)) [
      | inl before ↦ or_left (nat_le at o && nat_lt o (at + min from reach) && not c) (has (piece at from reach) o) (left_in at (min from reach) o c i.low (omega arith) i.free)
      | inr behind ↦ or_right (nat_le at o && nat_lt o (at + min from reach) && not c) (has (piece at from reach) o) (has_in (piece at from reach) o behind (omega arith))
    ])

-- ---- the pieces so far

-- so many holes are behind: they end at `from` or before, the others begin there or later, and the cover has what they
-- leave up to there
pub record IsBetween (old : List Span) (at reach : ℕ) (holes : List Span) (k from : ℕ) (cover : List Span) : Type 0 where
  pub small : from ≤ 2 ^ 43
  pub ahead : (j : ℕ) → k ≤ j → j < length holes → from ≤ (get_or holes j no_span).at
  pub behind : (j : ℕ) → j < k → j < length holes → (get_or holes j no_span).at + (get_or holes j no_span).len ≤ from
  pub gained : Gains old (is_left at (min from reach) (take k holes)) cover

nothing_left : (at reach o : ℕ) → is_left at (min 0 reach) [] o ≡ false
nothing_left at reach o = same_bool _ _
    (λ h. let i : IsLeft at (min 0 reach) o false = in_left at (min 0 reach) o false h in absurd (omega arith))
    (λ h. absurd (cc))

or_false : (a : Bool) → (a || false) ≡ a
or_false true = refl
or_false false = refl

pub between_first : (old : List Span) (at reach : ℕ) (holes : List Span) → IsBetween old at reach holes 0 0 old
between_first old at reach holes = record {
  small = omega arith;
  ahead = λ j from below. omega arith;
  behind = λ j before below. absurd (omega arith);
  gained = λ o. sym (ap (λ (b : Bool). covers old o || b) (nothing_left at reach o) ∙ or_false (covers old o));
}

-- no hole that is behind has an offset from there on
past_holes : (holes : List Span) (k from x : ℕ) → ((j : ℕ) → j < k → j < length holes → (get_or holes j no_span).at + (get_or holes j no_span).len ≤ from) → from ≤ x → covers (take k holes) x ≡ false
past_holes holes k from x behind past = covers_none (take k holes) x (λ j d below.
    let first : j < k = omega (arith, length-take k holes) in
    let inside : j < length holes = omega (arith, length-take k holes) in
    let end : (get_or holes j no_span).at + (get_or holes j no_span).len ≤ from = behind j first inside in
    rw (get_or-take k holes j d first, get_or_default holes j d no_span inside) (has_out (get_or holes j no_span) x (inr (omega arith))))

pub between_more : (old mid new : List Span) (at reach : ℕ) (holes : List Span) (k from : ℕ) → AreHoles holes → k < length holes → IsBetween old at reach holes k from mid → HasMore mid (piece at from (min (get_or holes k no_span).at reach)) new → IsBetween old at reach holes (k + 1) ((get_or holes k no_span).at + (get_or holes k no_span).len) new
between_more old mid new at reach holes k from are inside so_far more =
    let hole : Span = get_or holes k no_span in
    let ahead : from ≤ hole.at = so_far.ahead k (omega arith) inside in
    record {
      small = are.bounded k no_span inside;
      ahead = λ j past below. are.ascend k j no_span (omega arith) below;
      behind = λ j before below. elim (cases_lt j k) [
        | inl earlier ↦ let end = so_far.behind j earlier below in omega arith
        | inr this ↦ let same : j ≡ k = omega arith in rw same (omega arith)
      ];
      gained = λ o.
          let c : Bool = covers (take k holes) (o - at) in
          more o
          ∙ ap (λ (b : Bool). b || has (piece at from (min hole.at reach)) o) (so_far.gained o)
          ∙ or_assoc (covers old o) (is_left at (min from reach) (take k holes) o) (has (piece at from (min hole.at reach)) o)
          ∙ ap (λ (b : Bool). covers old o || b) (next_left at reach from o hole c ahead (past_holes holes k from (o - at) so_far.behind)
          ∙ ap (λ (b : Bool). nat_le at o && nat_lt o (at + min (hole.at + hole.len) reach) && not b) (sym (list_any_more (λ s. has s (o - at)) holes k no_span inside)));
    }

pub between_last : (old mid new : List Span) (at reach : ℕ) (holes : List Span) (k from : ℕ) → length holes ≤ k → IsBetween old at reach holes k from mid → HasMore mid (piece at from reach) new → Gains old (is_left at reach holes) new
between_last old mid new at reach holes k from all so_far more o =
    let c : Bool = covers (take k holes) (o - at) in
    more o
    ∙ ap (λ (b : Bool). b || has (piece at from reach) o) (so_far.gained o)
    ∙ or_assoc (covers old o) (is_left at (min from reach) (take k holes) o) (has (piece at from reach) o)
    ∙ ap (λ (b : Bool). covers old o || b) (last_left at reach from o c (past_holes holes k from (o - at) so_far.behind)
    ∙ ap (λ (l : List Span). is_left at reach l o) (take_all k holes all))
