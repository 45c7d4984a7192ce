-- The GUID partition table (UEFI 2.10, section 5.3), as fields at their offsets. Z is the sector size, LBA n the sector
-- number n, which begins at the byte n * Z.
use Rattle.std.specs.Prelude.{◌≡◌, ◌≢◌, ℕ, ◌+◌, ◌-◌, ◌*◌, ◌/◌, ◌%◌, ◌^◌, ◌<◌, ◌≤◌, ◌⊎◌, List, [], ◌∷◌, Option, Some, None, if◌then◌else◌, flat_map, codes, slice_get, slice_index, slice_index_or, length, max, replicate}
use Rattle.byteorder.specs.Endian.{little_bytes}
use Rattle.base_fields.specs.Crc.{crc32_of}
use Rattle.base_fields.specs.Fields.{Field, number, byte_of}
use Rattle.base_fields.specs.Numbers.{guid_order}
use Rattle.gpt_table.specs.Span.{bytes_at}
use Rattle.gpt_table.specs.declared.entry.GptEntry.{GptEntry}
use Rattle.gpt_table.specs.declared.header.GptHeader.{GptHeader}
use Rattle.gpt_table.specs.declared.table.GptSpec.{GptSpec}

-- the 128 bytes of an entry (section 5.3.3); identifiers are in the order of RFC 9562, the name is UTF-16LE
abbrev pub entry_fields : GptEntry → List Field
entry_fields e =
    record { at = 0; bytes = guid_order e.kind }
    ∷ record { at = 16; bytes = guid_order e.own }
    ∷ number 32 8 e.first
    ∷ number 40 8 e.last
    ∷ number 48 8 e.attrs
    ∷ record { at = 56; bytes = flat_map (little_bytes 2) e.name }
    ∷ []

-- the identifiers of an entry are of 16 bytes, and its name of 36 units
pub record HasLengths (e : GptEntry) : Type 0 where
  pub kind : length e.kind ≡ 16
  pub own : length e.own ≡ 16
  pub name : length e.name ≡ 36

-- the numbers of an entry fit their fields
pub record EntryFits (e : GptEntry) : Type 0 where
  pub lengths : HasLengths e
  pub first : e.first < 2 ^ 64
  pub last : e.last < 2 ^ 64
  pub attrs : e.attrs < 2 ^ 64
  pub units : (i : ℕ) → slice_index e.name i < 2 ^ 16

-- a slot that isn't used is all zero
abbrev pub no_entry : GptEntry
no_entry = record { kind = replicate 16 0; own = replicate 16 0; first = 0; last = 0; attrs = 0; name = replicate 36 0 }

abbrev pub slot_of : List GptEntry → ℕ → GptEntry
slot_of entries k = slice_index_or entries k no_entry

-- the byte at an offset of a slot, which is all zero where it isn't used
abbrev pub slot_byte : Option GptEntry → ℕ → ℕ
slot_byte None o = 0
slot_byte (Some e) o = byte_of (entry_fields e) o

-- the byte at an offset of the 16,384 bytes of entries: slot number k, from 0, stands at 128 * k
abbrev pub entries_byte : List GptEntry → ℕ → ℕ
entries_byte entries o = slot_byte (slice_get entries (o / 128)) (o % 128)

-- the CRC-32 of the 16,384 bytes of entries
unfoldable pub sum_of_entries : List GptEntry → ℕ
sum_of_entries entries = crc32_of (bytes_at (entries_byte entries) 0 16384)

-- the 92 bytes of a header (section 5.3.2) with this number as its own sum
abbrev pub header_fields : GptHeader → ℕ → List Field
header_fields h sum =
    record { at = 0; bytes = codes "EFI PART" }
    ∷ record { at = 8; bytes = 0 ∷ 0 ∷ 1 ∷ 0 ∷ [] }
    ∷ number 12 4 92
    ∷ number 16 4 sum
    ∷ number 20 4 0
    ∷ number 24 8 h.own
    ∷ number 32 8 h.other
    ∷ number 40 8 h.first_usable
    ∷ number 48 8 h.last_usable
    ∷ record { at = 56; bytes = guid_order h.disk }
    ∷ number 72 8 h.entries_at
    ∷ number 80 4 128
    ∷ number 84 4 128
    ∷ number 88 4 h.entries_sum
    ∷ []

-- the CRC-32 of the 92 bytes with the sum's own field zero
unfoldable pub header_sum : GptHeader → ℕ
header_sum h = crc32_of (bytes_at (byte_of (header_fields h 0)) 0 92)

-- the byte at an offset of a header's sector: zero from 92 on
unfoldable pub header_byte : GptHeader → ℕ → ℕ
header_byte h o = byte_of (header_fields h (header_sum h)) o

-- the sectors that the 16,384 bytes of entries take
abbrev pub entry_sectors : GptSpec → ℕ
entry_sectors spec = 16384 / spec.sector

-- the end, in bytes, of what stands in front: the boot record, the front header and its entries
abbrev pub front_end : GptSpec → ℕ
front_end spec = max (2 * spec.sector) (spec.entries_at * spec.sector + 16384)

abbrev pub first_usable_of : GptSpec → ℕ
first_usable_of spec = front_end spec / spec.sector

-- the LBA of the last sector, where the backup header stands
abbrev pub last_sector : GptSpec → ℕ
last_sector spec = spec.sectors - 1

-- the LBA of the backup's entries
abbrev pub back_entries_at : GptSpec → ℕ
back_entries_at spec = spec.sectors - 1 - entry_sectors spec

abbrev pub last_usable_of : GptSpec → ℕ
last_usable_of spec = if spec.backup then spec.sectors - 2 - entry_sectors spec else last_sector spec

-- what the header at LBA 1 says: without a backup the other header is itself
abbrev pub front_header : GptSpec → GptHeader
front_header spec = record {
  own = 1;
  other = if spec.backup then last_sector spec else 1;
  first_usable = first_usable_of spec;
  last_usable = last_usable_of spec;
  disk = spec.disk;
  entries_at = spec.entries_at;
  entries_sum = sum_of_entries spec.entries;
}

-- what the header in the last sector says
abbrev pub back_header : GptSpec → GptHeader
back_header spec = record {
  own = last_sector spec;
  other = 1;
  first_usable = first_usable_of spec;
  last_usable = last_usable_of spec;
  disk = spec.disk;
  entries_at = back_entries_at spec;
  entries_sum = sum_of_entries spec.entries;
}

-- the byte at an offset of the front header's sector
abbrev pub front_byte : GptSpec → ℕ → ℕ
front_byte spec o = header_byte (front_header spec) o

-- the byte at an offset of the backup header's sector; zero where there is no backup
abbrev pub back_byte : GptSpec → ℕ → ℕ
back_byte spec o = if spec.backup then header_byte (back_header spec) o else 0

abbrev pub HasSectorSize : GptSpec → Type 0
HasSectorSize spec = (spec.sector ≡ 512) ⊎ (spec.sector ≡ 4096)

-- the disk's sectors reach to the end of what stands in front, with a backup or without
abbrev pub HasRoom : GptSpec → Type 0
HasRoom spec = front_end spec ≤ spec.sectors * spec.sector

-- so many sectors that each LBA that the headers name is at least 0
abbrev pub least_sectors : GptSpec → ℕ
least_sectors spec = if spec.backup then 2 + entry_sectors spec else 1

-- what a table can be made of
pub record GptFits (spec : GptSpec) : Type 0 where
  pub sector : HasSectorSize spec
  pub disk : length spec.disk ≡ 16
  pub least : least_sectors spec ≤ spec.sectors
  pub last : last_sector spec < 2 ^ 64
  pub entries_at : spec.entries_at < 2 ^ 64
  pub has_entries : spec.entries_at ≢ 0
  pub usable : first_usable_of spec < 2 ^ 64
  pub few : length spec.entries ≤ 128
  pub entries : (k : ℕ) → k < length spec.entries → EntryFits (slot_of spec.entries k)
