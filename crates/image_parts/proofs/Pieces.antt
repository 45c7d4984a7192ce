-- One piece of a file that is put into an image.
use Rattle.std.specs.Prelude.{◌≡◌, ℕ, ◌+◌, ◌-◌, ◌<◌, ◌≤◌, max, List, [], length, take, drop, Option, Some, None, Ok, Err, slice_index, unwrap_or}
use Rattle.std.proofs.Common.{refl, ◌∙◌, sym, ap, subst, arith, inl, inr}
use Rattle.std.proofs.lemmas.Bool.{cases_lt}
use Rattle.std.proofs.lemmas.Bool.Decides.{nat_tests}
use Rattle.std.proofs.lemmas.Grind.{common_steps}
use Rattle.std.proofs.lemmas.List.{get_or-drop, get_or-take}
use Rattle.outside.specs.Files.{Tree, bytes_of}
use Rattle.outside.specs.Reading.{span_of}
use Rattle.outside.specs.Writing.{Transfers}
use Rattle.outside.specs.declared.reading.FillFault.TheVariants as fill
use Rattle.outside.proofs.WriteLemmas.{ok_and}
use Rattle.image_writes.specs.Images.{HasRun, IsInRun, Serves}
use Rattle.image_writes.proofs.Serving.{puts_run, serves_none}
use Rattle.image_parts.specs.Files.{HasPiece, LacksPiece, PutsPiece}

-- ---- what stands in a run of a file

-- a run that isn't empty is there
record HasSpan (source : Option (List ℕ)) (off n : ℕ) (bytes : List ℕ) : Type 0 where
  within : off + n ≤ length (unwrap_or source [])
  is : bytes ≡ take n (drop off (unwrap_or source []))

span_there : (source : Option (List ℕ)) (off n : ℕ) (bytes : List ℕ) → 0 < n → span_of source off n ≡ Ok bytes → HasSpan source off n bytes
span_there None off n bytes some h = absurd (grind (arith, nat_tests))
span_there (Some file) off n bytes some h = elim (cases_lt (length file) (off + n)) [
  | inl short ↦ absurd (grind (arith, nat_tests))
  | inr within ↦ record { within = within; is = grind (arith, nat_tests) }
]

pub span_missing : (source : Option (List ℕ)) (off n : ℕ) → 0 < n → span_of source off n ≡ Err fill.Missing → source ≡ None
span_missing None off n some h = refl
span_missing (Some file) off n some h = elim (cases_lt (length file) (off + n)) [
  | inl short ↦ absurd (grind (arith, nat_tests))
  | inr within ↦ absurd (grind (arith, nat_tests))
]

-- the first byte that lacks of a run
record IsSpanShort (source : Option (List ℕ)) (off n at : ℕ) : Type 0 where
  there : source ≡ Some (unwrap_or source [])
  short : length (unwrap_or source []) < off + n
  is : at ≡ max off (length (unwrap_or source []))

span_short : (source : Option (List ℕ)) (off n at : ℕ) → 0 < n → span_of source off n ≡ Err (fill.Short at) → IsSpanShort source off n at
span_short None off n at some h = absurd (grind (arith, nat_tests))
span_short (Some file) off n at some h = elim (cases_lt (length file) (off + n)) [
  | inl short ↦ record { there = refl; short = short; is = grind (arith, nat_tests) }
  | inr within ↦ absurd (grind (arith, nat_tests))
]

-- ---- a piece that is put

-- no byte
pub puts_nothing : (source : Option (List ℕ)) (place from to : ℕ) (name : List ℕ) (file : Tree) → to ≤ from → file name ≡ Some (bytes_of file name) → PutsPiece source place from to name file file
puts_nothing source place from to name file none there = record {
  had = λ i low high. absurd (omega arith);
  serves = λ want has. serves_none want (IsInRun (place + from) (to - from)) name file there
      (λ o inside. let low : place + from ≤ o = inside.0 in let high : o < place + from + (to - from) = inside.1 in absurd (omega arith));
}

piece_run : (want : ℕ → ℕ) (place from to : ℕ) (file bytes : List ℕ) → bytes ≡ take (to - from) (drop from file) → length bytes ≡ to - from → HasPiece want place from to file → HasRun want (place + from) bytes
piece_run want place from to file bytes is long has i inside =
    let moved : place + from + i ≡ place + (from + i) = omega arith in
    let short : i < to - from = omega arith in
    let there : slice_index bytes i ≡ slice_index file (from + i) =
    ap (λ (b : List ℕ). slice_index b i) is ∙ (get_or-take (to - from) (drop from file) i 0 short ∙ get_or-drop from file i 0) in
    ap want moved ∙ (has (from + i) (omega arith) (omega arith) ∙ sym there)

-- all bytes of the piece
pub puts_piece : (source : Option (List ℕ)) (place from to : ℕ) (name : List ℕ) (old new : Tree) → from < to → place + to ≤ length (bytes_of old name) → Transfers (span_of source from (to - from)) name (place + from) old new (Ok tt) → PutsPiece source place from to name old new
puts_piece source place from to name old new some within h =
    let (bytes, (is, now)) = ok_and _ _ h in
    let file : List ℕ = unwrap_or source [] in
    let span : HasSpan source from (to - from) bytes = span_there source from (to - from) bytes (omega arith) is in
    let inside : from + (to - from) ≤ length file = span.within in
    let same : bytes ≡ take (to - from) (drop from file) = span.is in
    let long : length bytes ≡ to - from = ap length same ∙ grind (arith, common_steps) in
    record {
      had = λ i low high. omega arith;
      serves = λ want has. subst (λ (n : ℕ). Serves want (IsInRun (place + from) n) name old new) long
          (puts_run (place + from) bytes name old new (omega arith) now want (piece_run want place from to file bytes same long has));
    }

-- a byte of it lacks
pub lacks_piece : (source : Option (List ℕ)) (from to at : ℕ) → from < to → span_of source from (to - from) ≡ Err (fill.Short at) → LacksPiece source from to at
lacks_piece source from to at some h =
    let s : IsSpanShort source from (to - from) at = span_short source from (to - from) at (omega arith) h in
    let file : List ℕ = unwrap_or source [] in
    let short : length file < from + (to - from) = s.short in
    let is : at ≡ max from (length file) = s.is in
    record {
      there = s.there;
      low = omega arith;
      high = omega arith;
      past = omega arith;
      first = λ i before below low. omega arith;
    }
