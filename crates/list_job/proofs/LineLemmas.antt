-- The lines of one entry more.
use Rattle.std.specs.Prelude.{◌≡◌, ℕ, zero, suc, ◌+◌, ◌<◌, ◌≤◌, List, [], ◌∷◌, ◌++◌, drop, get_or, length, take}
use Rattle.std.proofs.Common.{refl, ap, sym, ◌∙◌, append_assoc, append-nil, arith}
use Rattle.std.proofs.lemmas.List.{length-take-le, take-append-drop, take_all, take_more}
use Rattle.gpt_table.specs.declared.entry.GptEntry.{GptEntry}
use Rattle.mbr_table.specs.declared.mbr.MbrEntry.{MbrEntry}
use Rattle.table_lines.specs.Lines.{entry_text}
use Rattle.list_job.specs.Printed.{entry_lines, lines_from}

-- ---- entries of a record

from_append : (lines : ℕ → MbrEntry → List (List ℕ)) (n : ℕ) (xs ys : List MbrEntry)
    → lines_from lines n (xs ++ ys) ≡ lines_from lines n xs ++ lines_from lines (n + length xs) ys
from_append lines n [] ys =
    let same : n + 0 ≡ n = omega arith in
    rw same refl
from_append lines n (x ∷ xs) ys =
    let place : suc n + length xs ≡ n + suc (length xs) = omega arith in
    ap (λ (rest : List (List ℕ)). lines n x ++ rest) (from_append lines (suc n) xs ys)
    ∙ ap (λ (k : ℕ). lines n x ++ (lines_from lines (suc n) xs ++ lines_from lines k ys)) place
    ∙ sym (append_assoc (lines n x) (lines_from lines (suc n) xs) (lines_from lines (n + suc (length xs)) ys))

-- those in front of a place and those of the entry there
pub from_more : (lines : ℕ → MbrEntry → List (List ℕ)) (n k m : ℕ) (xs : List MbrEntry) (d : MbrEntry) → k < length xs → m ≡ n + k
    → lines_from lines n (take k xs) ++ lines m (get_or xs k d) ≡ lines_from lines n (take (k + 1) xs)
from_more lines n k m xs d below place =
    let front : List (List ℕ) = lines_from lines n (take k xs) in
    let x : MbrEntry = get_or xs k d in
    let long : length (take k xs) ≡ k = length-take-le k xs (omega arith) in
    let same : n + length (take k xs) ≡ m = rw long (sym place) in
    sym (ap (lines_from lines n) (take_more xs k d below)
    ∙ from_append lines n (take k xs) (x ∷ [])
    ∙ ap (λ (j : ℕ). front ++ (lines j x ++ [])) same
    ∙ ap (λ (own : List (List ℕ)). front ++ own) (append-nil (lines m x)))

-- and those behind it
pub from_split : (lines : ℕ → MbrEntry → List (List ℕ)) (n k m : ℕ) (xs : List MbrEntry) (d : MbrEntry) → k < length xs → m ≡ n + k
    → (lines_from lines n (take k xs) ++ lines m (get_or xs k d)) ++ lines_from lines (n + (k + 1)) (drop (k + 1) xs)
    ≡ lines_from lines n xs
from_split lines n k m xs d below place =
    let behind : List MbrEntry = drop (k + 1) xs in
    let long : length (take (k + 1) xs) ≡ k + 1 = length-take-le (k + 1) xs (omega arith) in
    ap (λ (front : List (List ℕ)). front ++ lines_from lines (n + (k + 1)) behind) (from_more lines n k m xs d below place)
    ∙ ap (λ (j : ℕ). lines_from lines n (take (k + 1) xs) ++ lines_from lines (n + j) behind) (sym long)
    ∙ sym (from_append lines n (take (k + 1) xs) behind)
    ∙ ap (lines_from lines n) (take-append-drop (k + 1) xs)

-- ---- entries of a GUID partition table

lines_length : (slots : List ℕ) (entries : List GptEntry) → length slots ≡ length entries
    → length (entry_lines slots entries) ≡ length entries
lines_length [] [] same = refl
lines_length [] (e ∷ entries) same = absurd (omega arith)
lines_length (slot ∷ slots) [] same = absurd (omega arith)
lines_length (slot ∷ slots) (e ∷ entries) same = ap suc (lines_length slots entries (omega arith))

line_at : (slots : List ℕ) (entries : List GptEntry) (k : ℕ) (d : GptEntry) → k < length entries → length slots ≡ length entries
    → get_or (entry_lines slots entries) k [] ≡ entry_text (get_or slots k 0) (get_or entries k d)
line_at slots [] k d below same = absurd (omega arith)
line_at [] (e ∷ entries) k d below same = absurd (omega arith)
line_at (slot ∷ slots) (e ∷ entries) zero d below same = refl
line_at (slot ∷ slots) (e ∷ entries) (suc k) d below same = line_at slots entries k d (omega arith) (omega arith)

-- the lines in front of a place and the one there
pub entries_more : (slots : List ℕ) (entries : List GptEntry) (k : ℕ) (d : GptEntry) → k < length entries → length slots ≡ length entries
    → take k (entry_lines slots entries) ++ entry_text (get_or slots k 0) (get_or entries k d) ∷ []
    ≡ take (k + 1) (entry_lines slots entries)
entries_more slots entries k d below same =
    let many : length (entry_lines slots entries) ≡ length entries = lines_length slots entries same in
    ap (λ (line : List ℕ). take k (entry_lines slots entries) ++ line ∷ []) (sym (line_at slots entries k d below same))
    ∙ sym (take_more (entry_lines slots entries) k [] (omega arith))

-- and those behind it
pub entries_split : (slots : List ℕ) (entries : List GptEntry) (k : ℕ) (d : GptEntry) → k < length entries → length slots ≡ length entries
    → (take k (entry_lines slots entries) ++ entry_text (get_or slots k 0) (get_or entries k d) ∷ [])
    ++ drop (k + 1) (entry_lines slots entries)
    ≡ entry_lines slots entries
entries_split slots entries k d below same =
    ap (λ (front : List (List ℕ)). front ++ drop (k + 1) (entry_lines slots entries)) (entries_more slots entries k d below same)
    ∙ take-append-drop (k + 1) (entry_lines slots entries)

pub entries_all : (slots : List ℕ) (entries : List GptEntry) (k : ℕ) → length entries ≤ k → length slots ≡ length entries
    → take k (entry_lines slots entries) ≡ entry_lines slots entries
entries_all slots entries k past same =
    let many : length (entry_lines slots entries) ≡ length entries = lines_length slots entries same in
    take_all k (entry_lines slots entries) (omega arith)
