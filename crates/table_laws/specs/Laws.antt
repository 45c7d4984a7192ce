-- The laws of tables that are read.
use Rattle.std.specs.Prelude.{◌≡◌, ◌≢◌, ℕ, suc, ◌<◌, ◌⊎◌, ◌↔◌, List, [], ◌∷◌, Option, None, Some, option_map, false, IsSomeAnd, if◌then◌else◌, length, map, Ok, Err}
use Rattle.std.specs.List.{list_all}
use Rattle.base_fields.specs.declared.spans.TableKind.{TableKind}
use Rattle.base_fields.specs.declared.spans.TableKind.TheVariants as table
use Rattle.mbr_table.specs.Mbr.{entry_of, is_empty}
use Rattle.mbr_table.specs.declared.mbr.MbrEntry.{MbrEntry}
use Rattle.mbr_table.specs.declared.mbr.MbrSpec.{MbrSpec}
use Rattle.extended_chain.specs.ChainReading.{logical_entry}
use Rattle.extended_chain.specs.declared.chain.LogicalSpec.{LogicalSpec}
use Rattle.gpt_table.specs.Gpt.{back_header, front_header, slot_of}
use Rattle.gpt_table.specs.declared.table.GptSpec.{GptSpec}
use Rattle.table_reading.specs.Recognised.{image_of}
use Rattle.table_reading.specs.Sector.{begins_header}
use Rattle.table_reader.specs.Tables.{tables_of}
use Rattle.table_reader.specs.declared.fault.TableFault.{TableFault}
use Rattle.table_reader.specs.declared.tables.Tables.{Tables}
use Rattle.image_layout.specs.IsLayout.{IsLayout, extended_slot}
use Rattle.image_layout.specs.ReadsBack.{ReadsBack}
use Rattle.image_layout.specs.declared.layout.Layout.{Layout}
use Rattle.table_laws.specs.ReadAs.{AreBytes, AreTablesOf, Guid, ReadAs, Slots, Whole, extended_in, kind_in, sector_in, used_of}

-- ---- any bytes

-- the answer to a file is tables exactly where its bytes read as these with what is recognised
abbrev pub TablesAreReadAs : Type 0
TablesAreReadAs = (bytes : List ℕ) (tables : Tables) → AreBytes bytes →
    (tables_of (Some bytes) ≡ Ok tables) ↔ AreTablesOf bytes tables

-- there are tables, and then no refusal; or there is a refusal, and then no tables
abbrev pub TablesOrRefusal : Type 0
TablesOrRefusal = (bytes : List ℕ) → AreBytes bytes →
    ((tables : Tables) × AreTablesOf bytes tables × ((refusal : TableFault) → tables_of (Some bytes) ≢ Err refusal))
    ⊎ ((refusal : TableFault) × (tables_of (Some bytes) ≡ Err refusal)
    × ((tables : Tables) → ¬ AreTablesOf bytes tables))

-- bytes have one set of tables at most
abbrev pub TablesAreOne : Type 0
TablesAreOne = (bytes : List ℕ) (tables others : Tables) → AreBytes bytes → AreTablesOf bytes tables →
    AreTablesOf bytes others → tables ≡ others

-- ---- what the tables of a layout read as

-- the slot of the extended partition, from 1, and 0 where there are no logical ones
abbrev pub slot_for : List LogicalSpec → MbrSpec → ℕ
slot_for [] spec = 0
slot_for (s ∷ specs) spec = suc (extended_slot spec (s ∷ specs))

abbrev pub whole_for : Layout → MbrSpec → Option GptSpec → Whole
whole_for l spec None = Slots spec (map logical_entry l.logical)
whole_for l spec (Some g) = Guid spec (front_header g) (back_header g) (slot_of g.entries)

-- an image of a layout's size whose tables read back reads as these, with the layout's own kind, slot and sector size
abbrev pub LayoutsReadAs : Type 0
LayoutsReadAs = (l : Layout) (bytes : List ℕ) → IsLayout l → l.table ≢ table.Bare → length bytes ≡ l.size →
    ReadsBack (image_of bytes) l →
    IsSomeAnd l.mbr (λ spec. ReadAs l.table bytes (slot_for l.logical spec) l.sector (whole_for l spec l.gpt))

-- ---- what is recognised of a layout

-- an entry that isn't taken for that of an extended partition or of a GUID partition table
abbrev pub IsPlain : MbrEntry → Type 0
IsPlain e = (e.kind ≢ 0x05) × (e.kind ≢ 0x0F) × (e.kind ≢ 0xEE)

-- each slot but that of the extended partition, where there are logical ones
abbrev pub HasPlainSlots : Layout → MbrSpec → Type 0
HasPlainSlots l spec = (k : ℕ) → k < 4 → (l.logical ≡ []) ⊎ (k ≢ extended_slot spec l.logical) →
    IsPlain (entry_of spec k)

-- in sectors of 4,096 bytes no `EFI PART` stands at 512
abbrev pub ShowsSector : Layout → List ℕ → Type 0
ShowsSector l bytes = l.sector ≡ 4096 → begins_header bytes 512 ≡ false

-- the layout has a table, and nothing in it is taken for something else
abbrev pub IsDistinct : TableKind → Layout → List ℕ → Type 0
IsDistinct table.Bare l bytes = ⊥
IsDistinct table.Mbr l bytes = IsSomeAnd l.mbr (HasPlainSlots l)
IsDistinct table.Gpt l bytes = ShowsSector l bytes
IsDistinct table.Hybrid l bytes = Unit {0}

-- a hybrid all of whose own entries are empty is like any GUID partition table
abbrev pub kind_for : TableKind → Layout → TableKind
kind_for table.Hybrid l = if list_all is_empty l.hybrid then table.Gpt else table.Hybrid
kind_for kind l = kind

-- the kind, the slot where no GUID partition table stands beside it, and the sector size are the layout's
pub record IsRecognised (kind : TableKind) (l : Layout) (bytes : List ℕ) (spec : MbrSpec) : Type 0 where
  pub kind_is : kind_in bytes ≡ kind_for kind l
  pub slot_is : kind ≡ table.Mbr → extended_in bytes ≡ slot_for l.logical spec
  pub sector_is : sector_in bytes ≡ l.sector

abbrev pub LayoutsAreRecognised : Type 0
LayoutsAreRecognised = (l : Layout) (bytes : List ℕ) → IsLayout l → length bytes ≡ l.size →
    ReadsBack (image_of bytes) l → IsDistinct l.table l bytes →
    IsSomeAnd l.mbr (λ spec. IsRecognised l.table l bytes spec)

-- ---- the tables of a layout

-- as they are read, beside its master boot record
abbrev pub tables_for : Layout → MbrSpec → Tables
tables_for l spec = record {
  kind = kind_for l.table l;
  signature = spec.signature;
  slots = spec.entries;
  logical = map logical_entry l.logical;
  gpt = option_map (λ g. used_of (front_header g) (slot_of g.entries)) l.gpt;
  sector = l.sector;
}

-- an image of a layout's size whose tables read back is read as the layout's tables
abbrev pub LayoutsAreRead : Type 0
LayoutsAreRead = (l : Layout) (bytes : List ℕ) → AreBytes bytes → IsLayout l → length bytes ≡ l.size →
    ReadsBack (image_of bytes) l → IsDistinct l.table l bytes →
    IsSomeAnd l.mbr (λ spec. tables_of (Some bytes) ≡ Ok (tables_for l spec))
