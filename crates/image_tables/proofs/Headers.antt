-- A GUID partition table: its entries and the sectors of its headers.
use Rattle.std.specs.Prelude.{◌≡◌, ℕ, ◌+◌, ◌-◌, ◌*◌, ◌<◌, ◌≤◌, List, [], ◌∷◌, Bool, true, false, drop, length, slice_index, get_or, if◌then◌else◌}
use Rattle.std.proofs.Common.{refl, ◌∙◌, sym, ap, subst, arith, inl, inr}
use Rattle.std.proofs.lemmas.Bool.{cases_lt}
use Rattle.std.proofs.lemmas.List.{get_or_append_left, get_or-append_right, get_or-drop, get_or_past}
use Rattle.base_fields.specs.Fields.{written}
use Rattle.base_fields.specs.Parts.{Part}
use Rattle.outside.specs.Files.{Tree}
use Rattle.gpt_table.specs.Gpt.{GptFits, back_byte, entries_byte, front_byte}
use Rattle.gpt_table.specs.GptParts.{back_entries_part, back_part, entries_part, front_part, gpt_parts}
use Rattle.gpt_table.specs.declared.table.GptHeads.{GptHeads}
use Rattle.gpt_table.specs.declared.table.GptSpec.{GptSpec}
use Rattle.gpt_table.proofs.Inside.{back_entries_inside, back_inside}
use Rattle.gpt_table.proofs.Headers.{back_byte-past, front_byte-past}
use Rattle.image_writes.specs.Images.{PutsRun}
use Rattle.image_writes.proofs.Serving.{serves_then}
use Rattle.image_tables.specs.Tables.{AreHeads, IsInOne, PutsParts, entries_parts, head_part, header_parts}
use Rattle.image_tables.proofs.Serving.{puts_both, puts_part, puts_same}

-- ---- entries

abbrev HasEntries : GptSpec → List ℕ → Type 0
HasEntries g bytes = (o : ℕ) → o < 16384 → slice_index bytes o ≡ entries_byte g.entries o

-- the backup's entries end within the disk
pub back_entries_end : (g : GptSpec) (n : ℕ) → GptFits g → g.backup ≡ true → g.sectors * g.sector ≤ n → (back_entries_part g).at + 16384 ≤ n
back_entries_end g n fits some within =
    let a = back_entries_inside g fits some in
    let b = back_inside g fits some in
    omega arith

pub puts_front : (g : GptSpec) (bytes name : List ℕ) (old new : Tree) → g.backup ≡ false → length bytes ≡ 16384 → HasEntries g bytes → PutsRun (entries_part g).at bytes name old new → PutsParts (entries_parts g) name old new
puts_front g bytes name old new none long has puts =
    subst (λ (b : Bool). PutsParts (entries_part g ∷ (if b then back_entries_part g ∷ [] else [])) name old new) (sym none)
    (puts_part (entries_part g) bytes name old new long has puts)

pub puts_entries : (g : GptSpec) (bytes name : List ℕ) (old mid new : Tree) → g.backup ≡ true → length bytes ≡ 16384 → HasEntries g bytes → PutsRun (entries_part g).at bytes name old mid → PutsRun (back_entries_part g).at bytes name mid new → PutsParts (entries_parts g) name old new
puts_entries g bytes name old mid new some long has front back =
    subst (λ (b : Bool). PutsParts (entries_part g ∷ (if b then back_entries_part g ∷ [] else [])) name old new) (sym some)
    (puts_both (entries_part g ∷ []) (back_entries_part g ∷ []) name old mid new
    (puts_part (entries_part g) bytes name old mid long has front) (puts_part (back_entries_part g) bytes name mid new long has back))

-- ---- headers

-- bytes at the front of zeros
pub head_set : (zeros head : List ℕ) (o : ℕ) → ((i : ℕ) → i < length zeros → slice_index zeros i ≡ 0) → o < length zeros → slice_index (written zeros 0 head) o ≡ slice_index head o
head_set zeros head o all inside = elim (cases_lt o (length head)) [
  | inl before ↦ get_or_append_left head (drop (0 + length head) zeros) 0 o before
  | inr past ↦
      let there : 0 + length head + (o - length head) ≡ o = omega arith in
      get_or-append_right head (drop (0 + length head) zeros) (length head) o 0 refl past
      ∙ get_or-drop (0 + length head) zeros (o - length head) 0
      ∙ ap (λ (k : ℕ). get_or zeros k 0) there
      ∙ all o inside
      ∙ sym (get_or_past head o 0 past)
]

pub puts_head : (at n : ℕ) (head room name : List ℕ) (old new : Tree) → length room ≡ n → ((o : ℕ) → o < n → slice_index room o ≡ slice_index head o) → PutsRun at room name old new → PutsParts (head_part at n head ∷ []) name old new
puts_head at n head room name old new full same puts = puts_part (head_part at n head) room name old new full same puts

front_same : (g : GptSpec) (heads : GptHeads) (o : ℕ) → length g.disk ≡ 16 → AreHeads g heads → slice_index heads.front o ≡ front_byte g o
front_same g heads o sixteen are = elim (cases_lt o 512) [
  | inl before ↦ are.front o before
  | inr past ↦ let long = are.front_len in get_or_past heads.front o 0 (omega arith) ∙ sym (front_byte-past g o sixteen (omega arith))
]

back_same : (g : GptSpec) (heads : GptHeads) (o : ℕ) → length g.disk ≡ 16 → AreHeads g heads → slice_index heads.back o ≡ back_byte g o
back_same g heads o sixteen are = elim (cases_lt o 512) [
  | inl before ↦ are.back o before
  | inr past ↦ let long = are.back_len in get_or_past heads.back o 0 (omega arith) ∙ sym (back_byte-past g o sixteen (omega arith))
]

front_put : (g : GptSpec) (heads : GptHeads) (name : List ℕ) (old new : Tree) → length g.disk ≡ 16 → AreHeads g heads → PutsParts (head_part (front_part g).at g.sector heads.front ∷ []) name old new → PutsParts (front_part g ∷ []) name old new
front_put g heads name old new sixteen are puts =
    puts_same (front_part g) (λ o. slice_index heads.front o) name old new (λ o inside. front_same g heads o sixteen are) puts

back_put : (g : GptSpec) (heads : GptHeads) (name : List ℕ) (old new : Tree) → length g.disk ≡ 16 → AreHeads g heads → PutsParts (head_part (back_part g).at g.sector heads.back ∷ []) name old new → PutsParts (back_part g ∷ []) name old new
back_put g heads name old new sixteen are puts =
    puts_same (back_part g) (λ o. slice_index heads.back o) name old new (λ o inside. back_same g heads o sixteen are) puts

pub puts_header : (g : GptSpec) (heads : GptHeads) (name : List ℕ) (old new : Tree) → g.backup ≡ false → length g.disk ≡ 16 → AreHeads g heads → PutsParts (head_part (front_part g).at g.sector heads.front ∷ []) name old new → PutsParts (header_parts g) name old new
puts_header g heads name old new none sixteen are puts =
    subst (λ (b : Bool). PutsParts (front_part g ∷ (if b then back_part g ∷ [] else [])) name old new) (sym none)
    (front_put g heads name old new sixteen are puts)

pub puts_headers : (g : GptSpec) (heads : GptHeads) (name : List ℕ) (old mid new : Tree) → g.backup ≡ true → length g.disk ≡ 16 → AreHeads g heads → PutsParts (head_part (front_part g).at g.sector heads.front ∷ []) name old mid → PutsParts (head_part (back_part g).at g.sector heads.back ∷ []) name mid new → PutsParts (header_parts g) name old new
puts_headers g heads name old mid new some sixteen are front back =
    subst (λ (b : Bool). PutsParts (front_part g ∷ (if b then back_part g ∷ [] else [])) name old new) (sym some)
    (puts_both (front_part g ∷ []) (back_part g ∷ []) name old mid new
    (front_put g heads name old mid sixteen are front) (back_put g heads name mid new sixteen are back))

-- ---- both

both_by_backup : (b : Bool) (front entries back_entries back : Part) (name : List ℕ) (old mid new : Tree) → PutsParts (entries ∷ (if b then back_entries ∷ [] else [])) name old mid → PutsParts (front ∷ (if b then back ∷ [] else [])) name mid new → PutsParts (front ∷ entries ∷ (if b then back_entries ∷ back ∷ [] else [])) name old new
both_by_backup true front entries back_entries back name old mid new first second = record {
  there = second.there;
  size = second.size ∙ first.size;
  serves = λ want each.
      serves_then want (IsInOne (entries ∷ back_entries ∷ [])) (IsInOne (front ∷ back ∷ [])) (IsInOne (front ∷ entries ∷ back_entries ∷ back ∷ [])) name old mid new
      (first.serves want (each.1.0, (each.1.1.0, tt))) (second.serves want (each.0, (each.1.1.1.0, tt)))
      (λ o own. elim own [
        | inl f ↦ inr (inl f)
        | inr rest ↦ elim rest [
          | inl e ↦ inl (inl e)
          | inr more ↦ elim more [
            | inl be ↦ inl (inr (inl be))
            | inr last ↦ inr (inr last)
          ]
        ]
      ]);
}
both_by_backup false front entries back_entries back name old mid new first second = record {
  there = second.there;
  size = second.size ∙ first.size;
  serves = λ want each.
      serves_then want (IsInOne (entries ∷ [])) (IsInOne (front ∷ [])) (IsInOne (front ∷ entries ∷ [])) name old mid new
      (first.serves want (each.1.0, tt)) (second.serves want (each.0, tt))
      (λ o own. elim own [
        | inl f ↦ inr (inl f)
        | inr rest ↦ inl rest
      ]);
}

pub puts_guid : (g : GptSpec) (name : List ℕ) (old mid new : Tree) → PutsParts (entries_parts g) name old mid → PutsParts (header_parts g) name mid new → PutsParts (gpt_parts g) name old new
puts_guid g name old mid new first second =
    both_by_backup g.backup (front_part g) (entries_part g) (back_entries_part g) (back_part g) name old mid new first second
