-- An image that has the bytes of an entry reads there as that entry.
use Rattle.std.specs.Prelude.{◌≡◌, ℕ, ◌+◌, ◌==◌, if◌then◌else◌, [], Bool, true, false, take, drop}
use Rattle.std.proofs.Common.{refl, ap, ◌∙◌, sym, add-zero, lit<}
use Rattle.byteorder.specs.Endian.{little_bytes}
use Rattle.base_fields.specs.Fields.{joined}
use Rattle.base_fields.proofs.Images.{Has, number_reads, part_of}
use Rattle.mbr_table.specs.Mbr.{entry_fields, is_empty, status_of}
use Rattle.mbr_table.specs.Reading.{EntryFits, slot_at}
use Rattle.mbr_table.specs.declared.mbr.MbrEntry.{MbrEntry}

status_cases : (empty active : Bool) → (active ≡ true → empty ≡ false) → ((if empty then 0 else if active then 0x80 else 0) == 0x80) ≡ active
status_cases true true used = sym (used refl)
status_cases true false used = refl
status_cases false true used = refl
status_cases false false used = refl

-- the status says whether the entry is active
status_reads : (e : MbrEntry) → (e.active ≡ true → is_empty e ≡ false) → (status_of e == 0x80) ≡ e.active
status_reads e used = status_cases (is_empty e) e.active used

-- entries with the same fields are one
abbrev entry : Bool → ℕ → ℕ → ℕ → MbrEntry
entry active kind first count = record { active = active; kind = kind; first = first; count = count }

pub same_entry : (a b : MbrEntry) → a.active ≡ b.active → a.kind ≡ b.kind → a.first ≡ b.first → a.count ≡ b.count → a ≡ b
same_entry a b active kind first count =
    ap (λ (x : Bool). entry x a.kind a.first a.count) active
    ∙ ap (λ (x : ℕ). entry b.active x a.first a.count) kind
    ∙ ap (λ (x : ℕ). entry b.active b.kind x a.count) first
    ∙ ap (λ (x : ℕ). entry b.active b.kind b.first x) count

-- sixteen bytes of an entry read as that entry
pub slot_reads : (image : ℕ → ℕ) (start o : ℕ) (e : MbrEntry) → EntryFits e → Has image o (joined (entry_fields 0 start e)) → slot_at image o ≡ e
slot_reads image start o e fits has =
    let bytes = joined (entry_fields 0 start e) in
    let status : image o ≡ status_of e = ap image (sym (add-zero o)) ∙ has 0 (lit< tt) in
    same_entry (slot_at image o) e
    (ap (λ (x : ℕ). x == 0x80) status ∙ status_reads e fits.used)
    (has 4 (lit< tt))
    (number_reads image (o + 8) 4 e.first fits.first (part_of image o (take 8 bytes) (little_bytes 4 e.first) (drop 12 bytes) has))
    (number_reads image (o + 12) 4 e.count fits.count (part_of image o (take 12 bytes) (little_bytes 4 e.count) [] has))
