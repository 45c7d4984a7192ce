-- The pieces of spans that ascend, one behind another.
use Rattle.std.proofs.Common.{ℕ, suc, ◌+◌, ◌-◌, ◌<◌, ◌≤◌, List, [], ◌∷◌, ◌++◌, length, get_or, map, Bool, ◌||◌, inl, inr, refl, sym, ap, ◌∙◌, arith, length-append}
use Rattle.std.proofs.lemmas.Bool.{cases_lt}
use Rattle.std.proofs.lemmas.List.{get_or-append_right, get_or_append_left}
use Rattle.std.proofs.lemmas.List.Elements.{All-append, All-map, All-nil}
use Rattle.std.proofs.lemmas.List.Folds.{list_any-append}
use Rattle.std.specs.Prelude.{All, AllPairs}
use Rattle.base_fields.specs.declared.spans.Span.{Span}
use Rattle.span_cover.specs.Cover.{covers, has}
use Rattle.span_cover.proofs.Spans.{Holder, covers_at, holder}
use Rattle.block_map.specs.Laws.{AreCutFrom}
use Rattle.block_map.specs.Pieces.{pieces}
use Rattle.block_map.specs.Units.{joined}
use Rattle.block_map.proofs.Pieces.{piece_ends, piece_filled, piece_most, pieces_ascend, pieces_exact}

-- cut from the offsets of spans
abbrev pub AreCut : ℕ → List Span → List Span → Type 0
AreCut unit spans us = AreCutFrom unit (covers spans) us

-- what doesn't begin before a place where none of the spans begins
no_earlier : (unit : ℕ) (spans us : List Span) (b : ℕ) → AreCut unit spans us → All (λ s. b ≤ s.at) spans → All (λ u. b ≤ u.at) us
no_earlier unit spans us b cut late k d below =
    let some : 0 < (get_or us k d).len = cut.filled k d below in
    let it : Holder spans (get_or us k d).at = holder spans (get_or us k d).at (sym (cut.exact (get_or us k d).at) ∙ covers_at us k (get_or us k d).at d below (omega arith) (omega arith)) in
    let low : b ≤ it.span.at = rw (← it.is d) (late it.place d it.within) in
    omega (arith, it.low)

pub pairs_append : (xs ys : List Span) (b : ℕ) → AllPairs (λ u later. u.at + u.len ≤ later.at) xs → AllPairs (λ u later. u.at + u.len ≤ later.at) ys → All (λ u. u.at + u.len ≤ b) xs → All (λ u. b ≤ u.at) ys → AllPairs (λ u later. u.at + u.len ≤ later.at) (xs ++ ys)
pairs_append xs ys b first second early late i j d before below =
    elim (cases_lt j (length xs)) [
      | inl low ↦ rw (get_or_append_left xs ys d i (omega arith), get_or_append_left xs ys d j low) (first i j d before low)
      | inr high ↦
          let j' : j - length xs < length ys = omega (arith, length-append xs ys) in
          rw (get_or-append_right xs ys (length xs) j d refl high)
          (elim (cases_lt i (length xs)) [
            | inl low ↦
                let end : (get_or xs i d).at + (get_or xs i d).len ≤ b = early i d low in
                let start : b ≤ (get_or ys (j - length xs) d).at = late (j - length xs) d j' in
                rw (get_or_append_left xs ys d i low) (omega arith)
            | inr both ↦ rw (get_or-append_right xs ys (length xs) i d refl both) (second (i - length xs) (j - length xs) d (omega arith) j')
          ])
    ]

pairs_tail : {X : Type 0} (R : X → X → Type 0) (x : X) (xs : List X) → AllPairs R (x ∷ xs) → AllPairs R xs
pairs_tail R x xs h i j d before below = h (suc i) (suc j) d (omega arith) (omega arith)

pairs_head : {X : Type 0} (R : X → X → Type 0) (x : X) (xs : List X) → AllPairs R (x ∷ xs) → All (λ y. R x y) xs
pairs_head R x xs h k d below = h 0 (suc k) d (omega arith) (omega arith)

spans_far : {X : Type 0} (f : X → Span) (xs : List X) (b : ℕ) → All (λ y. b ≤ (f y).at) xs → All (λ s. b ≤ s.at) (map f xs)
spans_far f xs b h = All-map (λ s. b ≤ s.at) f xs h

-- spans that ascend, each the f of an element, cut one after another
pub cut_all : {X : Type 0} (unit : ℕ) (f : X → Span) (xs : List X) → 0 < unit → AllPairs (λ x y. (f x).at + (f x).len ≤ (f y).at) xs → AreCut unit (map f xs) (joined (map (λ x. pieces unit (f x)) xs))
cut_all unit f [] some ascend = record { filled = All-nil _; most = All-nil _; ascend = λ i j d before below. absurd (omega arith); exact = λ o. refl }
cut_all {X} unit f (x ∷ xs) some ascend =
    let rest : AreCut unit (map f xs) (joined (map (λ (y : X). pieces unit (f y)) xs)) = cut_all unit f xs some (pairs_tail (λ (y z : X). (f y).at + (f y).len ≤ (f z).at) x xs ascend) in
    let us : List Span = joined (map (λ (y : X). pieces unit (f y)) xs) in
    let far : All (λ s. (f x).at + (f x).len ≤ s.at) (map f xs) = spans_far f xs ((f x).at + (f x).len) (pairs_head (λ (y z : X). (f y).at + (f y).len ≤ (f z).at) x xs ascend) in
    record {
      filled = All-append (λ (u : Span). 0 < u.len) (pieces unit (f x)) us (piece_filled unit (f x) some) rest.filled;
      most = All-append (λ (u : Span). u.len ≤ unit) (pieces unit (f x)) us (piece_most unit (f x) some) rest.most;
      ascend = pairs_append (pieces unit (f x)) us ((f x).at + (f x).len) (pieces_ascend unit (f x) some) rest.ascend (piece_ends unit (f x) some) (no_earlier unit (map f xs) us ((f x).at + (f x).len) rest far);
      exact = λ o. list_any-append (λ s. has s o) (pieces unit (f x)) us ∙ ap (λ (b : Bool). b || covers us o) (pieces_exact unit (f x) o some) ∙ ap (λ (b : Bool). has (f x) o || b) (rest.exact o);
    }

pub span_cut : (unit : ℕ) (s : Span) → 0 < unit → AreCutFrom unit (has s) (pieces unit s)
span_cut unit s some = record { filled = piece_filled unit s some; most = piece_most unit s some; ascend = pieces_ascend unit s some; exact = λ o. pieces_exact unit s o some }
