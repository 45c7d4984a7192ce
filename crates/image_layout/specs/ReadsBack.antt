-- Tables that read back as an image's layout has them: what stands in its slots, its chain and its headers.
use Rattle.std.specs.Prelude.{◌≢◌, ℕ, [], IsSomeAnd, map}
use Rattle.base_fields.specs.Parts.{HoldsParts}
use Rattle.base_fields.specs.declared.spans.TableKind.{TableKind}
use Rattle.base_fields.specs.declared.spans.TableKind.TheVariants as table
use Rattle.mbr_table.specs.Reading.{ReadsMbr}
use Rattle.extended_chain.specs.ChainReading.{logical_entry}
use Rattle.extended_chain.specs.Extended.{ReadsExtended}
use Rattle.gpt_table.specs.Gpt.{back_header, front_header, slot_of}
use Rattle.gpt_table.specs.Reading.{ReadsGpt}
use Rattle.image_layout.specs.IsLayout.{IsLayout, extended_slot}
use Rattle.image_layout.specs.Layout.{table_parts}
use Rattle.image_layout.specs.declared.layout.Layout.{Layout}

-- the four slots, and where there are logical partitions the chain from the slot of the extended one
abbrev pub ReadsSlots : (ℕ → ℕ) → Layout → Type 0
ReadsSlots image l =
    IsSomeAnd l.mbr (λ spec. ReadsMbr image spec × (l.logical ≢ [] → ReadsExtended image spec (extended_slot spec l.logical) (map logical_entry l.logical)))

-- the four slots, both headers and all 128 entries
abbrev pub ReadsGuid : (ℕ → ℕ) → Layout → Type 0
ReadsGuid image l =
    IsSomeAnd l.mbr (λ spec. ReadsMbr image spec)
    × IsSomeAnd l.gpt (λ g. ReadsGpt image l.size l.sector (front_header g) (back_header g) (slot_of g.entries))

abbrev pub ReadsAs : TableKind → (ℕ → ℕ) → Layout → Type 0
ReadsAs table.Bare image l = Unit {0}
ReadsAs table.Mbr image l = ReadsSlots image l
ReadsAs _ image l = ReadsGuid image l

-- an image, the byte at each offset, whose tables are those of the layout
abbrev pub ReadsBack : (ℕ → ℕ) → Layout → Type 0
ReadsBack image l = ReadsAs l.table image l

-- each image that has the bytes of a layout's tables reads back
abbrev pub LayoutReadsBack : Type 0
LayoutReadsBack = (l : Layout) (image : ℕ → ℕ) → IsLayout l → HoldsParts image (table_parts l) → ReadsBack image l
