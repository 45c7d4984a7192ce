-- An image that has the bytes of a layout's tables reads back as the layout has them.
use Rattle.std.specs.Prelude.{◌≢◌, ℕ, ◌<◌, List, [], ◌∷◌, ◌++◌, Option, Some, None, IsSomeAnd, length, map}
use Rattle.std.proofs.Common.{refl, subst, arith}
use Rattle.base_fields.specs.Parts.{AreApart, HoldsParts}
use Rattle.base_fields.specs.declared.spans.TableKind.{TableKind}
use Rattle.base_fields.specs.declared.spans.TableKind.TheVariants as table
use Rattle.base_fields.proofs.PartBytes.{apart_front, holds_back, holds_front}
use Rattle.mbr_table.specs.Mbr.{mbr_parts}
use Rattle.mbr_table.specs.Reading.{MbrFits, ReadsMbr}
use Rattle.mbr_table.specs.declared.mbr.MbrSpec.{MbrSpec}
use Rattle.mbr_table.proofs.Held.{mbr_held}
use Rattle.mbr_table.proofs.ReadsBack.{mbr_reads_back}
use Rattle.extended_chain.specs.Chain.{chain_parts}
use Rattle.extended_chain.specs.ChainReading.{logical_entry}
use Rattle.extended_chain.specs.Extended.{ReadsExtended}
use Rattle.extended_chain.specs.declared.chain.LogicalSpec.{LogicalSpec}
use Rattle.extended_chain.proofs.ExtendedReads.{extended_reads_back}
use Rattle.extended_chain.proofs.Held.{chain_held}
use Rattle.gpt_table.specs.Gpt.{back_header, front_header, slot_of}
use Rattle.gpt_table.specs.GptParts.{gpt_parts}
use Rattle.gpt_table.specs.Reading.{ReadsGpt}
use Rattle.gpt_table.specs.declared.table.GptSpec.{GptSpec}
use Rattle.gpt_table.proofs.Parts.{gpt_held}
use Rattle.gpt_table.proofs.ReadsBack.{gpt_reads_back}
use Rattle.image_layout.specs.IsLayout.{IsChain, IsGuid, IsHybrid, IsMbr, IsProtected, IsTabled, extended_slot}
use Rattle.image_layout.specs.Layout.{guid_parts_of, record_parts_of, table_parts}
use Rattle.image_layout.specs.ReadsBack.{LayoutReadsBack, ReadsAs}
use Rattle.image_layout.specs.declared.layout.Layout.{Layout}
use Rattle.image_layout.proofs.Tables.{IsBeside, beside_hybrid, beside_protected, both_there}

some_length : (xs : List LogicalSpec) → xs ≢ [] → 0 < length xs
some_length [] some = absurd (some refl)
some_length (x ∷ xs) some = omega arith

record_reads : (spec : MbrSpec) (image : ℕ → ℕ) → MbrFits spec → HoldsParts image (mbr_parts spec) → ReadsMbr image spec
record_reads spec image fits holds = mbr_reads_back spec image fits (mbr_held spec image holds)

-- ---- a master boot record with a chain

chain_reads : (l : Layout) (image : ℕ → ℕ) (spec : MbrSpec) → IsMbr l spec → AreApart (mbr_parts spec ++ chain_parts l.logical) → HoldsParts image (mbr_parts spec ++ chain_parts l.logical) → l.logical ≢ [] → ReadsExtended image spec (extended_slot spec l.logical) (map logical_entry l.logical)
chain_reads l image spec is apart holds some =
    let chain : IsChain spec l.logical (extended_slot spec l.logical) = is.chain some in
    extended_reads_back spec (extended_slot spec l.logical) l.logical image is.fits chain.slot chain.entry
    (some_length l.logical some) chain.few chain.fits chain.ascends
    (mbr_held spec image (holds_front image (mbr_parts spec) (chain_parts l.logical) holds))
    (chain_held l.logical image chain.ascends (holds_back image (mbr_parts spec) (chain_parts l.logical) apart holds))

slots_read : (l : Layout) (image : ℕ → ℕ) (mbr : Option MbrSpec) → IsSomeAnd mbr (IsMbr l) → AreApart (record_parts_of mbr ++ chain_parts l.logical) → HoldsParts image (record_parts_of mbr ++ chain_parts l.logical) → IsSomeAnd mbr (λ spec. ReadsMbr image spec × (l.logical ≢ [] → ReadsExtended image spec (extended_slot spec l.logical) (map logical_entry l.logical)))
slots_read l image None is apart holds = absurd is
slots_read l image (Some spec) is apart holds = (
  record_reads spec image is.fits (holds_front image (mbr_parts spec) (chain_parts l.logical) holds),
  chain_reads l image spec is apart holds,
)

-- ---- a GUID partition table with the record beside it

guid_reads : (l : Layout) (image : ℕ → ℕ) (g : GptSpec) → IsGuid l g → HoldsParts image (gpt_parts g) → ReadsGpt image l.size l.sector (front_header g) (back_header g) (slot_of g.entries)
guid_reads l image g is holds =
    let size = is.size in
    subst (λ (z : ℕ). ReadsGpt image l.size z (front_header g) (back_header g) (slot_of g.entries)) is.sector
    (gpt_reads_back g image l.size is.fits is.room (omega arith) (gpt_held g image is.fits is.apart holds))

both_read : (l : Layout) (image : ℕ → ℕ) (mbr : Option MbrSpec) (gpt : Option GptSpec) → IsSomeAnd gpt (λ g. IsSomeAnd mbr (IsBeside l g)) → AreApart (record_parts_of mbr ++ chain_parts l.logical ++ guid_parts_of gpt) → HoldsParts image (record_parts_of mbr ++ chain_parts l.logical ++ guid_parts_of gpt) → IsSomeAnd mbr (λ spec. ReadsMbr image spec) × IsSomeAnd gpt (λ g. ReadsGpt image l.size l.sector (front_header g) (back_header g) (slot_of g.entries))
both_read l image mbr None is apart holds = absurd is
both_read l image None (Some g) is apart holds = absurd is
both_read l image (Some spec) (Some g) is apart holds =
    let front = mbr_parts spec ++ chain_parts l.logical in (
      record_reads spec image is.mbr.fits (holds_front image (mbr_parts spec) (chain_parts l.logical) (holds_front image front (gpt_parts g) holds)),
      guid_reads l image g is.guid (holds_back image front (gpt_parts g) apart holds),
    )

-- ---- by the kind of table

read_as : (t : TableKind) (l : Layout) (image : ℕ → ℕ) → IsTabled t l → AreApart (table_parts l) → HoldsParts image (table_parts l) → ReadsAs t image l
read_as table.Bare l image is apart holds = tt
read_as table.Mbr l image is apart holds =
    let front = record_parts_of l.mbr ++ chain_parts l.logical in
    slots_read l image l.mbr is (apart_front front (guid_parts_of l.gpt) apart) (holds_front image front (guid_parts_of l.gpt) holds)
read_as table.Gpt l image is apart holds =
    both_read l image l.mbr l.gpt (both_there (IsProtected l) (IsBeside l) l.gpt l.mbr (beside_protected l) is) apart holds
read_as table.Hybrid l image is apart holds =
    both_read l image l.mbr l.gpt (both_there (IsHybrid l) (IsBeside l) l.gpt l.mbr (beside_hybrid l) is) apart holds

pub layout_reads_back : LayoutReadsBack
layout_reads_back l image is holds = read_as l.table l image is.tabled is.apart.tables holds
