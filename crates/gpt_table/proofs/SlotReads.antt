-- An image that has the bytes of a slot reads there as it.
use Rattle.std.specs.Prelude.{◌≡◌, ℕ, ◌+◌, ◌*◌, ◌/◌, ◌%◌, ◌<◌, List, [], ◌∷◌, length, slice_get, Option}
use Rattle.std.proofs.Common.{refl, ◌∙◌, sym, ap, subst, arith, inl, inr}
use Rattle.std.proofs.lemmas.Bool.{cases_lt}
use Rattle.std.proofs.lemmas.List.{get_or_past}
use Rattle.std.proofs.lemmas.Option.{slice_get-get_or, slice_get_past}
use Rattle.base_fields.specs.Fields.{byte_of, joined}
use Rattle.base_fields.specs.Numbers.{guid_order}
use Rattle.gpt_table.specs.Gpt.{EntryFits, entries_byte, entry_fields, no_entry, slot_byte, slot_of}
use Rattle.gpt_table.specs.Reading.{guid_at, slot_at}
use Rattle.gpt_table.specs.declared.entry.GptEntry.{GptEntry}
use Rattle.base_fields.proofs.FieldRuns.{byte_of-start}
use Rattle.gpt_table.proofs.Slots.{entry_run, length-entry, length-guid, zeros_are_zero}
use Rattle.gpt_table.proofs.Held.{Held, bytes_read, held_run, units_read}
use Rattle.base_fields.proofs.Images.{Has, number_reads}

-- turned twice, an identifier is itself
guid_twice : (id : List ℕ) → length id ≡ 16 → guid_order (guid_order id) ≡ id
guid_twice (a ∷ b ∷ c ∷ d ∷ e ∷ f ∷ g ∷ h ∷ i ∷ j ∷ k ∷ l ∷ m ∷ n ∷ o ∷ p ∷ []) sixteen = refl
guid_twice _ sixteen = absurd (omega arith)

pub guid_reads : (image : ℕ → ℕ) (o : ℕ) (id : List ℕ) → length id ≡ 16 → Has image o (guid_order id) → guid_at image o ≡ id
guid_reads image o id sixteen has =
    ap guid_order (bytes_read image o 16 (guid_order id) (length-guid id sixteen) has) ∙ guid_twice id sixteen

-- what begins at an offset plus 0 begins there
pub from_zero : (image : ℕ → ℕ) (o : ℕ) (xs : List ℕ) → Has image (o + 0) xs → Has image o xs
from_zero image o xs has i h = ap image (omega arith) ∙ has i h

-- entries with the same fields are one
abbrev entry : List ℕ → List ℕ → ℕ → ℕ → ℕ → List ℕ → GptEntry
entry kind own first last attrs name = record { kind = kind; own = own; first = first; last = last; attrs = attrs; name = name }

same_entry : (a b : GptEntry) → a.kind ≡ b.kind → a.own ≡ b.own → a.first ≡ b.first → a.last ≡ b.last → a.attrs ≡ b.attrs → a.name ≡ b.name → a ≡ b
same_entry a b kind own first last attrs name =
    ap (λ (x : List ℕ). entry x a.own a.first a.last a.attrs a.name) kind
    ∙ ap (λ (x : List ℕ). entry b.kind x a.first a.last a.attrs a.name) own
    ∙ ap (λ (x : ℕ). entry b.kind b.own x a.last a.attrs a.name) first
    ∙ ap (λ (x : ℕ). entry b.kind b.own b.first x a.attrs a.name) last
    ∙ ap (λ (x : ℕ). entry b.kind b.own b.first b.last x a.name) attrs
    ∙ ap (λ (x : List ℕ). entry b.kind b.own b.first b.last b.attrs x) name

-- an image that has the 128 bytes of an entry
pub entry_reads : (image : ℕ → ℕ) (o : ℕ) (e : GptEntry) → EntryFits e → ((j : ℕ) → j < 128 → image (o + j) ≡ byte_of (entry_fields e) j) → slot_at image o ≡ e
entry_reads image o e fits same =
    let run = entry_run e fits.lengths in
    let long = length-entry e fits.lengths in
    let has : Has image (o + 0) (joined (entry_fields e)) =
    λ i h. let inside : i < 128 = omega (arith, long) in
    ap image (omega arith) ∙ (same i inside ∙ byte_of-start (entry_fields e) i run) in
    let held : Held image o (entry_fields e) = held_run image o 0 (entry_fields e) run has in
    same_entry (slot_at image o) e
    (guid_reads image o e.kind fits.lengths.kind (from_zero image o (guid_order e.kind) held.0))
    (guid_reads image (o + 16) e.own fits.lengths.own held.1.0)
    (number_reads image (o + 32) 8 e.first fits.first held.1.1.0)
    (number_reads image (o + 40) 8 e.last fits.last held.1.1.1.0)
    (number_reads image (o + 48) 8 e.attrs fits.attrs held.1.1.1.1.0)
    (units_read image (o + 56) 36 e.name fits.lengths.name fits.units held.1.1.1.1.1.0)

pub no_entry-fits : EntryFits no_entry
no_entry-fits = record {
  lengths = record { kind = refl; own = refl; name = refl };
  first = omega arith;
  last = omega arith;
  attrs = omega arith;
  units = λ i. let none = zeros_are_zero 36 i in omega (arith, none);
}

-- each byte of an entry that isn't there is zero
no_entry-byte : (j : ℕ) → byte_of (entry_fields no_entry) j ≡ 0
no_entry-byte j =
    byte_of-start (entry_fields no_entry) j (entry_run no_entry no_entry-fits.lengths) ∙ zeros_are_zero 128 j

-- the byte of slot k is that of its entry
slot_byte-of : (entries : List GptEntry) (k j : ℕ) → slot_byte (slice_get entries k) j ≡ byte_of (entry_fields (slot_of entries k)) j
slot_byte-of entries k j = elim (cases_lt k (length entries)) [
  | inl inside ↦ ap (λ (s : Option GptEntry). slot_byte s j) (slice_get-get_or entries k no_entry inside)
  | inr past ↦
      ap (λ (s : Option GptEntry). slot_byte s j) (slice_get_past entries k past)
      ∙ (sym (no_entry-byte j) ∙ ap (λ (e : GptEntry). byte_of (entry_fields e) j) (sym (get_or_past entries k no_entry past)))
]

slot_fits : (entries : List GptEntry) (k : ℕ) → ((i : ℕ) → i < length entries → EntryFits (slot_of entries i)) → EntryFits (slot_of entries k)
slot_fits entries k fits = elim (cases_lt k (length entries)) [
  | inl inside ↦ fits k inside
  | inr past ↦ subst EntryFits (sym (get_or_past entries k no_entry past)) no_entry-fits
]

-- an image that has the bytes of the entries
pub slots_read : (image : ℕ → ℕ) (o : ℕ) (entries : List GptEntry) → ((k : ℕ) → k < length entries → EntryFits (slot_of entries k)) → ((i : ℕ) → i < 16384 → image (o + i) ≡ entries_byte entries i) → (k : ℕ) → k < 128 → slot_at image (o + 128 * k) ≡ slot_of entries k
slots_read image o entries fits same k inside =
    entry_reads image (o + 128 * k) (slot_of entries k) (slot_fits entries k fits)
    (λ j small.
    let place : (128 * k + j) / 128 ≡ k = omega arith in
    let within : (128 * k + j) % 128 ≡ j = omega arith in
    ap image (omega arith)
    ∙ (same (128 * k + j) (omega arith)
    ∙ (ap (λ (n : ℕ). slot_byte (slice_get entries n) ((128 * k + j) % 128)) place
    ∙ (ap (λ (n : ℕ). slot_byte (slice_get entries k) n) within
    ∙ slot_byte-of entries k j))))
