-- What the tables of an image are read as, whatever a reader does: all that they say, with the kind of table, the slot
-- of the extended partition (from 1, and 0 where there is none) and the sector size.
use Rattle.std.specs.Prelude.{◌≡◌, ℕ, zero, suc, ◌+◌, ◌*◌, ◌<◌, List, [], ◌∷◌, None, Some, length, map, slice_index}
use Rattle.base_fields.specs.declared.spans.TableKind.{TableKind}
use Rattle.base_fields.specs.declared.spans.TableKind.TheVariants as table
use Rattle.mbr_table.specs.Mbr.{entry_of}
use Rattle.mbr_table.specs.Reading.{ReadsMbr, slot_at, spec_at}
use Rattle.mbr_table.specs.declared.mbr.MbrEntry.{MbrEntry}
use Rattle.mbr_table.specs.declared.mbr.MbrSpec.{MbrSpec}
use Rattle.extended_chain.specs.ChainReading.{ChainReads}
use Rattle.gpt_table.specs.Reading.{ReadsGpt}
use Rattle.gpt_table.specs.declared.entry.GptEntry.{GptEntry}
use Rattle.gpt_table.specs.declared.header.GptHeader.{GptHeader}
use Rattle.table_reading.specs.Recognised.{extended_slot, image_of, kind_of}
use Rattle.table_reading.specs.Sector.{sector_of}
use Rattle.gpt_reading.specs.Used.{used_below}
use Rattle.gpt_reading.specs.declared.tables.GptTable.{GptTable}
use Rattle.table_reader.specs.declared.tables.Tables.{Tables}

-- a list of bytes
abbrev pub AreBytes : List ℕ → Type 0
AreBytes bytes = (o : ℕ) → slice_index bytes o < 256

-- ---- what is read

-- all that tables say: a master boot record with its logical partitions, or one beside a GUID partition table, with
-- both headers of that and the entry in each of its 128 slots, in use or not
pub data Whole : Type 0 where
  Slots : MbrSpec → List MbrEntry → Whole
  Guid : MbrSpec → GptHeader → GptHeader → (ℕ → GptEntry) → Whole

-- the logical partitions are those that the links give from the first sector of the slot on
abbrev pub AreLogical : (ℕ → ℕ) → ℕ → List MbrEntry → Type 0
AreLogical image zero logical = logical ≡ []
AreLogical image (suc k) logical = ChainReads image (slot_at image (446 + 16 * k)).first logical

-- both headers stand in sectors of a size, with their entries; no chain is read
abbrev pub ReadsGuid : List ℕ → ℕ → MbrSpec → GptHeader → GptHeader → (ℕ → GptEntry) → Type 0
ReadsGuid bytes sector mbr front back slot =
    ReadsMbr (image_of bytes) mbr × ReadsGpt (image_of bytes) (length bytes) sector front back slot

-- bytes that read as all this, with a kind, a slot and a sector size; nothing reads as no table
abbrev pub ReadAs : TableKind → List ℕ → ℕ → ℕ → Whole → Type 0
ReadAs table.Mbr bytes slot sector (Slots mbr logical) =
    ReadsMbr (image_of bytes) mbr × AreLogical (image_of bytes) slot logical
ReadAs table.Gpt bytes slot sector (Guid mbr front back entries) = ReadsGuid bytes sector mbr front back entries
ReadAs table.Hybrid bytes slot sector (Guid mbr front back entries) = ReadsGuid bytes sector mbr front back entries
ReadAs kind bytes slot sector whole = ⊥

-- ---- what is recognised

abbrev pub kind_in : List ℕ → TableKind
kind_in bytes = kind_of (spec_at (image_of bytes))

abbrev pub extended_in : List ℕ → ℕ
extended_in bytes = extended_slot (spec_at (image_of bytes))

abbrev pub sector_in : List ℕ → ℕ
sector_in bytes = sector_of (kind_in bytes) bytes

-- ---- what of it a reader lists

abbrev pub four_slots : MbrSpec → List MbrEntry
four_slots mbr = entry_of mbr 0 ∷ entry_of mbr 1 ∷ entry_of mbr 2 ∷ entry_of mbr 3 ∷ []

-- the entries in use alone, with the numbers of their slots, from 1
abbrev pub used_of : GptHeader → (ℕ → GptEntry) → GptTable
used_of front slot = record {
  disk = front.disk;
  first_usable = front.first_usable;
  last_usable = front.last_usable;
  entries = map slot (used_below slot 128);
  slots = map (λ k. k + 1) (used_below slot 128);
}

abbrev pub listed : TableKind → ℕ → Whole → Tables
listed kind sector (Slots mbr logical) = record {
  kind = kind;
  signature = mbr.signature;
  slots = four_slots mbr;
  logical = logical;
  gpt = None;
  sector = sector;
}
listed kind sector (Guid mbr front back slot) = record {
  kind = kind;
  signature = mbr.signature;
  slots = four_slots mbr;
  logical = [];
  gpt = Some (used_of front slot);
  sector = sector;
}

-- the tables that bytes have: what they read as with what is recognised
abbrev pub AreTablesOf : List ℕ → Tables → Type 0
AreTablesOf bytes tables =
    (whole : Whole)
    × ReadAs (kind_in bytes) bytes (extended_in bytes) (sector_in bytes) whole
    × (tables ≡ listed (kind_in bytes) (sector_in bytes) whole)
