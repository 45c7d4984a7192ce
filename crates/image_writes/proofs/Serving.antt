-- Files in which bytes are put one run after another.
use Rattle.std.specs.Prelude.{◌≡◌, ℕ, ◌+◌, ◌-◌, ◌<◌, ◌≤◌, ◌⊎◌, List, [], ◌++◌, length, take, drop, replicate, Some, slice_index, get_or, unwrap_or}
use Rattle.std.proofs.Common.{refl, ◌∙◌, sym, ap, arith, inl, inr}
use Rattle.std.proofs.lemmas.Bool.{cases_lt}
use Rattle.std.proofs.lemmas.Grind.{common_steps}
use Rattle.std.proofs.lemmas.List.{get_or_append_left, get_or-append_right, get_or-drop, get_or-replicate, get_or-take}
use Rattle.base_fields.specs.Fields.{written}
use Rattle.outside.specs.Files.{Tree, bytes_of}
use Rattle.image_writes.specs.Images.{HasRun, IsFilled, IsInRun, PutsRun, Serves}

-- ---- one write

-- what a write within a list leaves
pub length-written : (old bytes : List ℕ) (at : ℕ) → at + length bytes ≤ length old → length (written old at bytes) ≡ length old
length-written old bytes at within = grind (arith, common_steps)

written_before : (old bytes : List ℕ) (at o : ℕ) → at ≤ length old → o < at → slice_index (written old at bytes) o ≡ slice_index old o
written_before old bytes at o within before =
    let front : length (take at old) ≡ at = grind (arith, common_steps) in
    let short : o < length (take at old ++ bytes) = grind (arith, common_steps) in
    get_or_append_left (take at old ++ bytes) (drop (at + length bytes) old) 0 o short
    ∙ get_or_append_left (take at old) bytes 0 o (omega arith)
    ∙ get_or-take at old o 0 before

written_in : (old bytes : List ℕ) (at o : ℕ) → at ≤ length old → at ≤ o → o < at + length bytes → slice_index (written old at bytes) o ≡ slice_index bytes (o - at)
written_in old bytes at o within low high =
    let front : length (take at old) ≡ at = grind (arith, common_steps) in
    let short : o < length (take at old ++ bytes) = grind (arith, common_steps) in
    get_or_append_left (take at old ++ bytes) (drop (at + length bytes) old) 0 o short
    ∙ get_or-append_right (take at old) bytes at o 0 front low

written_behind : (old bytes : List ℕ) (at o : ℕ) → at + length bytes ≤ length old → at + length bytes ≤ o → slice_index (written old at bytes) o ≡ slice_index old o
written_behind old bytes at o within past =
    let both : length (take at old ++ bytes) ≡ at + length bytes = grind (arith, common_steps) in
    let there : at + length bytes + (o - (at + length bytes)) ≡ o = omega arith in
    get_or-append_right (take at old ++ bytes) (drop (at + length bytes) old) (at + length bytes) o 0 both past
    ∙ get_or-drop (at + length bytes) old (o - (at + length bytes)) 0
    ∙ ap (λ (k : ℕ). get_or old k 0) there

written_right : (want : ℕ → ℕ) (old bytes : List ℕ) (at o : ℕ) → at ≤ length old → HasRun want at bytes → IsInRun at (length bytes) o → slice_index (written old at bytes) o ≡ want o
written_right want old bytes at o within has inside =
    let low : at ≤ o = inside.0 in
    let high : o < at + length bytes = inside.1 in
    let there : at + (o - at) ≡ o = omega arith in
    written_in old bytes at o within low high ∙ (sym (has (o - at) (omega arith)) ∙ ap want there)

written_kept : (want : ℕ → ℕ) (old bytes : List ℕ) (at o : ℕ) → at + length bytes ≤ length old → HasRun want at bytes → slice_index old o ≡ want o → slice_index (written old at bytes) o ≡ want o
written_kept want old bytes at o within has right = elim (cases_lt o at) [
  | inl before ↦ written_before old bytes at o (omega arith) before ∙ right
  | inr low ↦ elim (cases_lt o (at + length bytes)) [
    | inl high ↦ written_right want old bytes at o (omega arith) has (low, high)
    | inr past ↦ written_behind old bytes at o within past ∙ right
  ]
]

bytes_there : (file : Tree) (name bytes : List ℕ) → file name ≡ Some bytes → bytes_of file name ≡ bytes
bytes_there file name bytes is = ap (λ f. unwrap_or f []) is

there_too : (file : Tree) (name bytes : List ℕ) → file name ≡ Some bytes → file name ≡ Some (bytes_of file name)
there_too file name bytes is = is ∙ ap (λ b. Some b) (sym (bytes_there file name bytes is))

-- a file after a write within it
pub puts_run : (at : ℕ) (bytes name : List ℕ) (old new : Tree) → at + length bytes ≤ length (bytes_of old name) → new name ≡ Some (written (bytes_of old name) at bytes) → PutsRun at bytes name old new
puts_run at bytes name old new within is want has =
    let now : bytes_of new name ≡ written (bytes_of old name) at bytes = bytes_there new name (written (bytes_of old name) at bytes) is in
    record {
      there = there_too new name (written (bytes_of old name) at bytes) is;
      size = ap length now ∙ length-written (bytes_of old name) bytes at within;
      kept = λ o right. ap (λ (b : List ℕ). slice_index b o) now ∙ written_kept want (bytes_of old name) bytes at o within has right;
      put = λ o inside. ap (λ (b : List ℕ). slice_index b o) now ∙ written_right want (bytes_of old name) bytes at o (omega arith) has inside;
    }

-- ---- one after another

-- nothing is put
pub serves_none : (want : ℕ → ℕ) (Put : ℕ → Type 0) (name : List ℕ) (file : Tree) → file name ≡ Some (bytes_of file name) → ((o : ℕ) → ¬ Put o) → Serves want Put name file file
serves_none want Put name file there none = record {
  there = there;
  size = refl;
  kept = λ o right. right;
  put = λ o own. absurd (none o own);
}

-- first the offsets of one set, then those of another
pub serves_then : (want : ℕ → ℕ) (First Second Put : ℕ → Type 0) (name : List ℕ) (old mid new : Tree) → Serves want First name old mid → Serves want Second name mid new → ((o : ℕ) → Put o → First o ⊎ Second o) → Serves want Put name old new
serves_then want First Second Put name old mid new front back split = record {
  there = back.there;
  size = back.size ∙ front.size;
  kept = λ o right. back.kept o (front.kept o right);
  put = λ o own. elim (split o own) [
    | inl first ↦ back.kept o (front.put o first)
    | inr second ↦ back.put o second
  ];
}

-- ---- one byte at each offset

pub filled_with : (size byte : ℕ) (name : List ℕ) (file : Tree) → file name ≡ Some (replicate size byte) → IsFilled size byte name file
filled_with size byte name file is =
    let now : bytes_of file name ≡ replicate size byte = bytes_there file name (replicate size byte) is in
    record {
      there = there_too file name (replicate size byte) is;
      size = ap length now ∙ grind (arith, common_steps);
      each = λ o inside. ap (λ (b : List ℕ). slice_index b o) now ∙ get_or-replicate size o byte 0 inside;
    }

-- a piece of a buffer that holds one byte alone
pub piece_has : (buf : List ℕ) (byte n at : ℕ) → ((i : ℕ) → i < length buf → slice_index buf i ≡ byte) → HasRun (λ (o : ℕ). byte) at (take n buf)
piece_has buf byte n at same i inside =
    let low : i < n = grind (arith, common_steps) in
    let there : i < length buf = grind (arith, common_steps) in
    sym (get_or-take n buf i 0 low ∙ same i there)

pub all_filled : (size byte : ℕ) (name : List ℕ) (old new : Tree) → length (bytes_of old name) ≡ size → Serves (λ (o : ℕ). byte) (λ (o : ℕ). o < size) name old new → IsFilled size byte name new
all_filled size byte name old new long served = record {
  there = served.there;
  size = served.size ∙ long;
  each = served.put;
}

-- one more piece of such a buffer
pub filled_more : (byte done n : ℕ) (buf name : List ℕ) (old mid new : Tree) → n ≤ length buf → ((i : ℕ) → i < length buf → slice_index buf i ≡ byte) → Serves (λ (o : ℕ). byte) (λ (o : ℕ). o < done) name old mid → PutsRun done (take n buf) name mid new → Serves (λ (o : ℕ). byte) (λ (o : ℕ). o < done + n) name old new
filled_more byte done n buf name old mid new within same front puts =
    let long : length (take n buf) ≡ n = grind (arith, common_steps) in
    serves_then (λ (o : ℕ). byte) (λ (o : ℕ). o < done) (IsInRun done (length (take n buf))) (λ (o : ℕ). o < done + n) name old mid new front (puts (λ (o : ℕ). byte) (piece_has buf byte n done same)) (λ o own. elim (cases_lt o done) [
      | inl before ↦ inl before
      | inr past ↦ inr (past, omega arith)
    ])
