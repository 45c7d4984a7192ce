-- An image that has the parts of a master boot record, and the record that is read from it.
use Rattle.std.specs.Prelude.{◌≡◌, ℕ, ◌+◌, List, [], ◌∷◌, length, slice_index_or}
use Rattle.std.proofs.Common.{refl, ◌∙◌, ap, arith, lit<}
use Rattle.base_fields.specs.Parts.{AreApart, AreInOrder, HoldsPart, HoldsParts, fields_part}
use Rattle.base_fields.proofs.PartBytes.{fields_held, holds_each, in_order_apart}
use Rattle.mbr_table.specs.Mbr.{mbr_fields, mbr_parts, no_entry}
use Rattle.mbr_table.specs.Reading.{HoldsMbr, MbrFits, ReadsMbr, slot_at, spec_at}
use Rattle.mbr_table.specs.declared.mbr.MbrEntry.{MbrEntry}
use Rattle.mbr_table.specs.declared.mbr.MbrSpec.{MbrSpec}

pub mbr_in_order : (spec : MbrSpec) → AreInOrder 0 (mbr_parts spec)
mbr_in_order spec = (omega arith, tt)

pub mbr_apart : (spec : MbrSpec) → AreApart (mbr_parts spec)
mbr_apart spec = in_order_apart (mbr_parts spec) 0 (mbr_in_order spec)

-- an image that has the part has the bytes of the record
pub mbr_held : (spec : MbrSpec) (image : ℕ → ℕ) → HoldsParts image (mbr_parts spec) → HoldsMbr image spec
mbr_held spec image holds o low high =
    let fields = mbr_fields spec in
    let part : HoldsPart image (fields_part 0 440 512 fields) = holds_each image (mbr_parts spec) (mbr_apart spec) holds 0 (fields_part 0 440 512 fields) (lit< tt) in
    let here : o ≡ 0 + o = omega arith in
    ap image here ∙ fields_held image 0 440 512 fields part o low high

four_entries : (xs : List MbrEntry) → length xs ≡ 4 → slice_index_or xs 0 no_entry ∷ slice_index_or xs 1 no_entry ∷ slice_index_or xs 2 no_entry ∷ slice_index_or xs 3 no_entry ∷ [] ≡ xs
four_entries (a ∷ b ∷ c ∷ d ∷ []) four = refl
four_entries _ four = absurd (omega arith)

abbrev spec_of : ℕ → List MbrEntry → MbrSpec
spec_of signature entries = record { signature = signature; entries = entries }

abbrev listed : MbrEntry → MbrEntry → MbrEntry → MbrEntry → List MbrEntry
listed a b c d = a ∷ b ∷ c ∷ d ∷ []

-- what is read is the whole of what the record was made of
pub mbr_is_read : (spec : MbrSpec) (image : ℕ → ℕ) → MbrFits spec → ReadsMbr image spec → spec_at image ≡ spec
mbr_is_read spec image fits reads =
    let a = slot_at image 446 in
    let b = slot_at image 462 in
    let c = slot_at image 478 in
    let d = slot_at image 494 in
    let e : ℕ → MbrEntry = λ k. slice_index_or spec.entries k no_entry in
    let entries : listed a b c d ≡ spec.entries =
    ap (λ (x : MbrEntry). listed x b c d) (reads.slots 0 (lit< tt))
    ∙ ap (λ (x : MbrEntry). listed (e 0) x c d) (reads.slots 1 (lit< tt))
    ∙ ap (λ (x : MbrEntry). listed (e 0) (e 1) x d) (reads.slots 2 (lit< tt))
    ∙ ap (λ (x : MbrEntry). listed (e 0) (e 1) (e 2) x) (reads.slots 3 (lit< tt))
    ∙ four_entries spec.entries fits.four in
    ap (λ (n : ℕ). spec_of n (listed a b c d)) reads.signature ∙ ap (spec_of spec.signature) entries
