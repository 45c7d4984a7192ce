-- Parts of an image that are put one after another.
use Rattle.std.specs.Prelude.{◌≡◌, ℕ, zero, suc, ◌+◌, ◌-◌, ◌<◌, ◌⊎◌, List, [], ◌∷◌, ◌++◌, All, Option, Some, None, IfSome, length, slice_index, get_or}
use Rattle.std.proofs.Common.{refl, ◌∙◌, sym, ap, arith, inl, inr}
use Rattle.std.proofs.lemmas.List.Elements.{All-tail}
use Rattle.base_fields.specs.Parts.{HoldsPart, Part, fields_part}
use Rattle.base_fields.specs.Fields.{byte_of}
use Rattle.outside.specs.Files.{IsThere, Tree, bytes_of}
use Rattle.mbr_table.specs.Mbr.{HasLast, mbr_fields, mbr_parts}
use Rattle.mbr_table.specs.declared.mbr.MbrSpec.{MbrSpec}
use Rattle.extended_chain.specs.Chain.{chain_parts}
use Rattle.image_layout.specs.IsLayout.{IsLayout}
use Rattle.image_layout.specs.Layout.{guid_parts_of, record_parts_of, table_parts}
use Rattle.image_layout.specs.declared.layout.Layout.{Layout}
use Rattle.image_layout.proofs.Tables.{CanBeWritten, tables_of}
use Rattle.image_writes.specs.Images.{HasRun, IsInRun, PutsRun, Serves}
use Rattle.image_writes.proofs.Serving.{serves_none, serves_then}
use Rattle.image_tables.specs.Tables.{Each, EndsWithin, IsInOne, PutsParts}

-- ---- each of the parts

pub all_each : (P : Part → Type 0) (ps : List Part) → All P ps → Each P ps
all_each P [] all = tt
all_each P (p ∷ ps) all = (all 0 p (omega arith), all_each P ps (All-tail P p ps all))

pub each_front : (P : Part → Type 0) (ps qs : List Part) → Each P (ps ++ qs) → Each P ps
each_front P [] qs each = tt
each_front P (p ∷ ps) qs each = (each.0, each_front P ps qs each.1)

pub each_back : (P : Part → Type 0) (ps qs : List Part) → Each P (ps ++ qs) → Each P qs
each_back P [] qs each = each
each_back P (p ∷ ps) qs each = each_back P ps qs each.1

pub each_at : (P : Part → Type 0) (ps : List Part) (k : ℕ) (d : Part) → Each P ps → k < length ps → P (get_or ps k d)
each_at P [] k d each inside = absurd (omega arith)
each_at P (p ∷ ps) zero d each inside = each.0
each_at P (p ∷ ps) (suc k) d each inside = each_at P ps k d each.1 (omega arith)

in_either : (ps qs : List Part) (o : ℕ) → IsInOne (ps ++ qs) o → IsInOne ps o ⊎ IsInOne qs o
in_either [] qs o own = inr own
in_either (p ∷ ps) qs o (inl own) = inl (inl own)
in_either (p ∷ ps) qs o (inr own) = elim (in_either ps qs o own) [
  | inl front ↦ inl (inr front)
  | inr back ↦ inr back
]

-- ---- one part, and two lists of them

pub puts_none : (name : List ℕ) (file : Tree) → file name ≡ Some (bytes_of file name) → PutsParts [] name file file
puts_none name file there = record {
  there = there;
  size = refl;
  serves = λ want each. serves_none want (IsInOne []) name file there (λ o own. own);
}

pub puts_both : (ps qs : List Part) (name : List ℕ) (old mid new : Tree) → PutsParts ps name old mid → PutsParts qs name mid new → PutsParts (ps ++ qs) name old new
puts_both ps qs name old mid new front back = record {
  there = back.there;
  size = back.size ∙ front.size;
  serves = λ want each.
      serves_then want (IsInOne ps) (IsInOne qs) (IsInOne (ps ++ qs)) name old mid new
      (front.serves want (each_front (HoldsPart want) ps qs each)) (back.serves want (each_back (HoldsPart want) ps qs each)) (in_either ps qs);
}

own_run : (at : ℕ) (bytes : List ℕ) → HasRun (λ o. slice_index bytes (o - at)) at bytes
own_run at bytes i inside = let there : at + i - at ≡ i = omega arith in ap (λ (k : ℕ). slice_index bytes k) there

-- the file is as long as before
pub run_there : (at : ℕ) (bytes name : List ℕ) (old new : Tree) → PutsRun at bytes name old new → IsThere new name (length (bytes_of new name) ≡ length (bytes_of old name))
run_there at bytes name old new puts =
    let first : Serves (λ o. slice_index bytes (o - at)) (IsInRun at (length bytes)) name old new = puts (λ o. slice_index bytes (o - at)) (own_run at bytes) in
    (first.there, first.size)

-- the bytes of a part are put
pub puts_part : (p : Part) (bytes name : List ℕ) (old new : Tree) → length bytes ≡ p.len → ((o : ℕ) → o < p.len → slice_index bytes o ≡ p.byte o) → PutsRun p.at bytes name old new → PutsParts (p ∷ []) name old new
puts_part p bytes name old new long same puts =
    let first : Serves (λ o. slice_index bytes (o - p.at)) (IsInRun p.at (length bytes)) name old new = puts (λ o. slice_index bytes (o - p.at)) (own_run p.at bytes) in
    record {
      there = first.there;
      size = first.size;
      serves = λ want each.
          let has : HasRun want p.at bytes = λ i inside. each.0 i (omega arith) ∙ sym (same i (omega arith)) in
          let served : Serves want (IsInRun p.at (length bytes)) name old new = puts want has in
          record {
            there = served.there;
            size = served.size;
            kept = served.kept;
            put = λ o own. elim own [
              | inl inside ↦ served.put o (inside.0, let high : o < p.at + p.len = inside.1 in omega arith)
              | inr none ↦ absurd none
            ];
          };
    }

-- the same part by another name of its bytes
pub puts_same : (q : Part) (byte : ℕ → ℕ) (name : List ℕ) (old new : Tree) → ((o : ℕ) → o < q.len → byte o ≡ q.byte o) → PutsParts ((record { at = q.at; len = q.len; byte = byte }) ∷ []) name old new → PutsParts (q ∷ []) name old new
puts_same q byte name old new same puts = record {
  there = puts.there;
  size = puts.size;
  serves = λ want each.
      let served = puts.serves want ((λ o inside. each.0 o inside ∙ sym (same o inside)), tt) in
      record { there = served.there; size = served.size; kept = served.kept; put = served.put };
}

-- ---- the master boot record

pub puts_record : (spec : MbrSpec) (bytes name : List ℕ) (old new : Tree) → length bytes ≡ 72 → ((o : ℕ) → o < 72 → slice_index bytes o ≡ byte_of (mbr_fields spec) (440 + o)) → PutsRun 440 bytes name old new → PutsParts (mbr_parts spec) name old new
puts_record spec bytes name old new long same puts =
    puts_part (fields_part 0 440 512 (mbr_fields spec)) bytes name old new long same puts

-- ---- all tables

last_of : (mbr : Option MbrSpec) → IfSome mbr CanBeWritten → IfSome mbr (λ spec. All (HasLast 0) spec.entries)
last_of None can = tt
last_of (Some spec) can = can.last

pub can_be_written : (l : Layout) → IsLayout l → IfSome l.mbr (λ spec. All (HasLast 0) spec.entries)
can_be_written l is = last_of l.mbr (tables_of l is).mbr

each_within : (l : Layout) (n : ℕ) → IsLayout l → n ≡ l.size → Each (EndsWithin n) (table_parts l)
each_within l n is long = rw long (all_each (EndsWithin l.size) (table_parts l) is.inside)

pub record_within : (l : Layout) (n : ℕ) → IsLayout l → n ≡ l.size → Each (EndsWithin n) (record_parts_of l.mbr)
record_within l n is long =
    each_front (EndsWithin n) (record_parts_of l.mbr) (chain_parts l.logical)
    (each_front (EndsWithin n) (record_parts_of l.mbr ++ chain_parts l.logical) (guid_parts_of l.gpt) (each_within l n is long))

pub chain_within : (l : Layout) (n : ℕ) → IsLayout l → n ≡ l.size → Each (EndsWithin n) (chain_parts l.logical)
chain_within l n is long =
    each_back (EndsWithin n) (record_parts_of l.mbr) (chain_parts l.logical)
    (each_front (EndsWithin n) (record_parts_of l.mbr ++ chain_parts l.logical) (guid_parts_of l.gpt) (each_within l n is long))

pub puts_tables : (l : Layout) (old after_record after_chain new : Tree) → PutsParts (record_parts_of l.mbr) l.file old after_record → PutsParts (chain_parts l.logical) l.file after_record after_chain → PutsParts (guid_parts_of l.gpt) l.file after_chain new → PutsParts (table_parts l) l.file old new
puts_tables l old after_record after_chain new a b c =
    puts_both (record_parts_of l.mbr ++ chain_parts l.logical) (guid_parts_of l.gpt) l.file old after_chain new
    (puts_both (record_parts_of l.mbr) (chain_parts l.logical) l.file old after_record after_chain a b) c
