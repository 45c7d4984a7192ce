-- The bytes of one partition's file, which are put in pieces between its holes.
use Rattle.std.specs.Prelude.{◌≡◌, ℕ, ◌+◌, ◌-◌, ◌^◌, ◌<◌, ◌≤◌, min, List, [], length, false, Option, Some, None, Err, get_or, slice_index, unwrap_or}
use Rattle.std.proofs.Common.{◌∙◌, sym, ap, subst, arith, inl, inr}
use Rattle.std.proofs.lemmas.Bool.{cases_lt}
use Rattle.std.proofs.lemmas.List.{get_or_default}
use Rattle.base_fields.specs.declared.spans.Span.{Span}
use Rattle.outside.specs.Files.{IsThere, Tree, bytes_of}
use Rattle.outside.specs.declared.files.ComposeFault.{ComposeFault}
use Rattle.outside.specs.declared.files.ComposeFault.TheVariants.{Missing, FileFault, SourceShort, NoMemory}
use Rattle.span_cover.specs.Cover.{covers}
use Rattle.span_cover.proofs.Spans.{covers_at, covers_none, has_out, true≢false}
use Rattle.image_layout.specs.IsLayout.{AreHoles}
use Rattle.image_layout.specs.declared.layout.Placed.{Placed}
use Rattle.image_writes.specs.Images.{IsInRun, Serves}
use Rattle.image_writes.proofs.Serving.{serves_none, serves_then}
use Rattle.image_parts.specs.Files.{HasFile, IsNeeded, IsOwn, LacksPiece, PartAnswers, PieceAnswers, PutsPart, PutsPiece}

abbrev pub no_span : Span
no_span = record { at = 0; len = 0 }

abbrev pub hole_of : List Span → ℕ → Span
hole_of holes k = get_or holes k no_span

-- ---- where the holes stand

-- so many holes end at an offset or before, and the others begin there or later
pub record IsAmong (holes : List Span) (k from : ℕ) : Type 0 where
  pub small : from ≤ 2 ^ 43
  pub ahead : (j : ℕ) → k ≤ j → j < length holes → from ≤ (hole_of holes j).at
  pub behind : (j : ℕ) → j < k → j < length holes → (hole_of holes j).at + (hole_of holes j).len ≤ from

pub among_first : (holes : List Span) → IsAmong holes 0 0
among_first holes = record {
  small = omega arith;
  ahead = λ j from below. omega arith;
  behind = λ j before below. absurd (omega arith);
}

pub among_more : (holes : List Span) (k from : ℕ) → AreHoles holes → k < length holes → IsAmong holes k from → IsAmong holes (k + 1) ((hole_of holes k).at + (hole_of holes k).len)
among_more holes k from are inside so_far =
    let ahead : from ≤ (hole_of holes k).at = so_far.ahead k (omega arith) inside in
    record {
      small = are.bounded k no_span inside;
      ahead = λ j past below. are.ascend k j no_span (omega arith) below;
      behind = λ j before below. elim (cases_lt j k) [
        | inl earlier ↦ let end = so_far.behind j earlier below in omega arith
        | inr this ↦ let same : j ≡ k = omega arith in rw same (omega arith)
      ];
    }

-- what stands between the holes so far and the next one is in no hole
free_between : (holes : List Span) (k from to i : ℕ) → IsAmong holes k from → ((j : ℕ) → k ≤ j → j < length holes → to ≤ (hole_of holes j).at) → from ≤ i → i < to → covers holes i ≡ false
free_between holes k from to i among next low high = covers_none holes i (λ j d below. rw (get_or_default holes j d no_span below) (elim (cases_lt j k) [
  | inl before ↦ let end = among.behind j before below in has_out (hole_of holes j) i (inr (omega arith))
  | inr past ↦ let start = next j past below in has_out (hole_of holes j) i (inl (omega arith))
]))

-- each byte of a piece is needed
abbrev pub AllNeeded : Placed → ℕ → ℕ → Type 0
AllNeeded p from to = (i : ℕ) → from ≤ i → i < to → IsNeeded p i

-- the hole behind those before it, where it begins
next_begins : (holes : List Span) (k from : ℕ) → AreHoles holes → k < length holes → IsAmong holes k from → (j : ℕ) → k ≤ j → j < length holes → (hole_of holes k).at ≤ (hole_of holes j).at
next_begins holes k from are inside among j past below = elim (cases_lt k j) [
  | inl later ↦ let apart : (hole_of holes k).at + (hole_of holes k).len ≤ (hole_of holes j).at = are.ascend k j no_span later below in omega arith
  | inr this ↦ let same : j ≡ k = omega arith in rw same (omega arith)
]

pub needed_before_hole : (p : Placed) (k from : ℕ) → AreHoles p.holes → k < length p.holes → IsAmong p.holes k from → AllNeeded p from (min (hole_of p.holes k).at p.len)
needed_before_hole p k from are inside among i low high = record {
  below = omega arith;
  free = free_between p.holes k from (hole_of p.holes k).at i among (next_begins p.holes k from are inside among) low (omega arith);
}

pub needed_behind_holes : (p : Placed) (k from : ℕ) → length p.holes ≤ k → IsAmong p.holes k from → AllNeeded p from p.len
needed_behind_holes p k from all among i low high = record {
  below = high;
  free = free_between p.holes k from p.len i among (λ j past below. absurd (omega arith)) low high;
}

-- a byte that is needed and stands before the end of a hole stands before it
before_hole : (holes : List Span) (k i : ℕ) → k < length holes → covers holes i ≡ false → i < (hole_of holes k).at + (hole_of holes k).len → i < (hole_of holes k).at
before_hole holes k i inside free high = elim (cases_lt i (hole_of holes k).at) [
  | inl before ↦ before
  | inr low ↦ absurd (true≢false (sym (covers_at holes k i no_span inside low high) ∙ free))
]

-- what is needed up to an offset stands up to another one
abbrev pub NoneBetween : Placed → ℕ → ℕ → ℕ → Type 0
NoneBetween p from to next = (i : ℕ) → IsNeeded p i → i < next → from ≤ i → i < to

pub none_in_hole : (p : Placed) (k from : ℕ) → k < length p.holes → NoneBetween p from (min (hole_of p.holes k).at p.len) ((hole_of p.holes k).at + (hole_of p.holes k).len)
none_in_hole p k from inside i needed high low =
    let before : i < (hole_of p.holes k).at = before_hole p.holes k i inside needed.free high in
    let below : i < p.len = needed.below in
    omega arith

-- ---- what is put

-- an image that has what a partition needs of its file
abbrev pub wanted : Option (List ℕ) → Placed → ℕ → ℕ
wanted source p o = slice_index (unwrap_or source []) (o - p.at)

pub wants : (source : Option (List ℕ)) (p : Placed) → HasFile (wanted source p) p (unwrap_or source [])
wants source p i needed = let there : p.at + i - p.at ≡ i = omega arith in ap (λ (k : ℕ). slice_index (unwrap_or source []) k) there

-- what is needed before an offset of the file is there and is put
pub record PutsUpTo (source : Option (List ℕ)) (p : Placed) (from : ℕ) (name : List ℕ) (old new : Tree) : Type 0 where
  pub had : (i : ℕ) → IsNeeded p i → i < from → i < length (unwrap_or source [])
  pub serves : (want : ℕ → ℕ) → HasFile want p (unwrap_or source []) → Serves want (λ o. IsOwn p o × (o < p.at + from)) name old new

pub puts_first : (source : Option (List ℕ)) (p : Placed) (name : List ℕ) (file : Tree) → file name ≡ Some (bytes_of file name) → PutsUpTo source p 0 name file file
puts_first source p name file there = record {
  had = λ i needed before. absurd (omega arith);
  serves = λ want has. serves_none want (λ o. IsOwn p o × (o < p.at + 0)) name file there
      (λ o own. let low : p.at ≤ o = own.0.0 in let high : o < p.at + 0 = own.1 in absurd (omega arith));
}

pub puts_more : (source : Option (List ℕ)) (p : Placed) (from to next : ℕ) (name : List ℕ) (old mid new : Tree) → AllNeeded p from to → NoneBetween p from to next → PutsUpTo source p from name old mid → PutsPiece source p.at from to name mid new → PutsUpTo source p next name old new
puts_more source p from to next name old mid new all none so_far piece = record {
  had = λ i needed before. elim (cases_lt i from) [
    | inl earlier ↦ so_far.had i needed earlier
    | inr low ↦ piece.had i low (none i needed before low)
  ];
  serves = λ want has.
      serves_then want (λ o. IsOwn p o × (o < p.at + from)) (IsInRun (p.at + from) (to - from)) (λ o. IsOwn p o × (o < p.at + next)) name old mid new
      (so_far.serves want has) (piece.serves want (λ i low high. has i (all i low high)))
      (λ o own. elim (cases_lt o (p.at + from)) [
        | inl before ↦ inl (own.0, before)
        | inr past ↦
            let low : p.at ≤ o = own.0.0 in
            let high : o < p.at + next = own.1 in
            let inside : o - p.at < to = none (o - p.at) own.0.1 (omega arith) (omega arith) in
            inr (past, omega arith)
      ]);
}

-- the image's file is as long as before
pub still_inside : (source : Option (List ℕ)) (p : Placed) (from : ℕ) (name : List ℕ) (old mid : Tree) → p.at + p.len ≤ length (bytes_of old name) → PutsUpTo source p from name old mid → IsThere mid name (p.at + p.len ≤ length (bytes_of mid name))
still_inside source p from name old mid inside so_far =
    let served = so_far.serves (wanted source p) (wants source p) in
    (served.there, rw served.size inside)

-- all that is needed
pub puts_whole : (source : Option (List ℕ)) (p : Placed) (name : List ℕ) (old new : Tree) → PutsUpTo source p p.len name old new → PutsPart source p name old new
puts_whole source p name old new up = record {
  had = λ i needed. up.had i needed needed.below;
  serves = λ want has.
      let served : Serves want (λ o. IsOwn p o × (o < p.at + p.len)) name old new = up.serves want has in
      record {
        there = served.there;
        size = served.size;
        kept = served.kept;
        put = λ o own.
            let low : p.at ≤ o = own.0 in
            let below : o - p.at < p.len = own.1.below in
            served.put o (own, omega arith);
      };
}

pub puts_last : (source : Option (List ℕ)) (p : Placed) (from : ℕ) (name : List ℕ) (old mid new : Tree) → AllNeeded p from p.len → PutsUpTo source p from name old mid → PutsPiece source p.at from p.len name mid new → PutsPart source p name old new
puts_last source p from name old mid new all so_far piece =
    puts_whole source p name old new
    (puts_more source p from p.len p.len name old mid new all (λ i needed before low. before) so_far piece)

-- a partition without a file needs no byte
pub puts_none : (p : Placed) (name : List ℕ) (file : Tree) → p.len ≡ 0 → file name ≡ Some (bytes_of file name) → PutsPart None p name file file
puts_none p name file none there = puts_whole None p name file file (subst (λ (n : ℕ). PutsUpTo None p n name file file) (sym none) (puts_first None p name file there))

-- ---- what lacks

-- a piece that isn't put is a partition that isn't
pub part_fails : (number : ℕ) (source : Option (List ℕ)) (p : Placed) (from to : ℕ) (name : List ℕ) (old mid new : Tree) (fault : ComposeFault) → AllNeeded p from to → PutsUpTo source p from name old mid → PieceAnswers number source p.at from to name mid new (Err fault) → PartAnswers number source p name old new (Err fault)
part_fails number source p from to name old mid new (Missing part) all so_far h =
    let some : from < to = h.2 in
    (h.0, record { none = h.1; some = (from, all from (omega arith) some) })
part_fails number source p from to name old mid new (SourceShort part at) all so_far h =
    let lack : LacksPiece source from to at = h.1 in
    let high : at < to = lack.high in (
      h.0,
      record {
        there = lack.there;
        needed = all at lack.low lack.high;
        past = lack.past;
        first = λ i before needed. elim (cases_lt i from) [
          | inl earlier ↦ so_far.had i needed earlier
          | inr low ↦ lack.first i before (omega arith) low
        ];
      },
    )
part_fails number source p from to name old mid new FileFault all so_far h = tt
part_fails number source p from to name old mid new NoMemory all so_far h = tt

-- the same where the source's file is as before
pub part_fails_too : (number : ℕ) (was source : Option (List ℕ)) (p : Placed) (from to : ℕ) (name : List ℕ) (old mid new : Tree) (fault : ComposeFault) → was ≡ source → AllNeeded p from to → PutsUpTo source p from name old mid → PieceAnswers number was p.at from to name mid new (Err fault) → PartAnswers number source p name old new (Err fault)
part_fails_too number was source p from to name old mid new fault same all so_far h =
    part_fails number source p from to name old mid new fault all so_far (subst (λ (s : Option (List ℕ)). PieceAnswers number s p.at from to name mid new (Err fault)) same h)
