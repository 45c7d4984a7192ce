-- What the bytes of an image read as, an image being the byte at each offset, and beside it its
-- length in bytes, inside which all lies that is read. Nothing here knows how a table is written.
use Rattle.std.specs.Prelude.{◌≡◌, ◌≢◌, ℕ, zero, suc, ◌+◌, ◌*◌, ◌<◌, ◌≤◌, List, [], ◌∷◌, ◌++◌, true, codes, replicate}
use Rattle.base_fields.specs.Crc.{crc32_of}
use Rattle.base_fields.specs.Fields.{number_at}
use Rattle.base_fields.specs.Numbers.{guid_order}
use Rattle.gpt_table.specs.Span.{bytes_at}
use Rattle.gpt_table.specs.Gpt.{GptFits, HasRoom, back_byte, back_entries_at, back_header, entries_byte, front_byte, front_header, last_sector, slot_of}
use Rattle.gpt_table.specs.declared.entry.GptEntry.{GptEntry}
use Rattle.gpt_table.specs.declared.header.GptHeader.{GptHeader}
use Rattle.gpt_table.specs.declared.table.GptSpec.{GptSpec}

-- an identifier, in the order of RFC 9562
abbrev pub guid_at : (ℕ → ℕ) → ℕ → List ℕ
guid_at image o = guid_order (bytes_at image o 16)

-- so many numbers of two bytes, one after another
unfoldable pub units_at : (ℕ → ℕ) → ℕ → ℕ → List ℕ
units_at image o zero = []
units_at image o (suc n) = number_at image o 2 ∷ units_at image (o + 2) n

-- the entry in the 128 bytes from an offset
abbrev pub slot_at : (ℕ → ℕ) → ℕ → GptEntry
slot_at image o = record {
  kind = guid_at image o;
  own = guid_at image (o + 16);
  first = number_at image (o + 32) 8;
  last = number_at image (o + 40) 8;
  attrs = number_at image (o + 48) 8;
  name = units_at image (o + 56) 36;
}

-- what the header in the 92 bytes from an offset says
abbrev pub header_at : (ℕ → ℕ) → ℕ → GptHeader
header_at image o = record {
  own = number_at image (o + 24) 8;
  other = number_at image (o + 32) 8;
  first_usable = number_at image (o + 40) 8;
  last_usable = number_at image (o + 48) 8;
  disk = guid_at image (o + 56);
  entries_at = number_at image (o + 72) 8;
  entries_sum = number_at image (o + 88) 4;
}

-- a right header stands where it says, and says this; these are the 128 slots of its entries, by
-- their numbers from 0. Its 92 bytes and those of the entries are there. Z is the sector size
pub record ReadsHeader (image : ℕ → ℕ) (len z : ℕ) (header : GptHeader) (slot : ℕ → GptEntry) : Type 0 where
  pub inside : header.own * z + 92 ≤ len
  pub signature : bytes_at image (header.own * z) 8 ≡ codes "EFI PART"
  pub revision : bytes_at image (header.own * z + 8) 4 ≡ 0 ∷ 0 ∷ 1 ∷ 0 ∷ []
  pub size : number_at image (header.own * z + 12) 4 ≡ 92
  -- the sum is that of the 92 bytes with its own field zero
  pub sum : number_at image (header.own * z + 16) 4 ≡ crc32_of (bytes_at image (header.own * z) 16 ++ (replicate 4 0 ++ bytes_at image (header.own * z + 20) 72))
  pub reserved : number_at image (header.own * z + 20) 4 ≡ 0
  pub says : header_at image (header.own * z) ≡ header
  pub has_entries : header.entries_at ≢ 0
  pub slot_count : number_at image (header.own * z + 80) 4 ≡ 128
  pub slot_size : number_at image (header.own * z + 84) 4 ≡ 128
  pub entries_inside : header.entries_at * z + 16384 ≤ len
  pub entries_sum : header.entries_sum ≡ crc32_of (bytes_at image (header.entries_at * z) 16384)
  pub slots : (k : ℕ) → k < 128 → slot_at image (header.entries_at * z + 128 * k) ≡ slot k

-- the header that the front one names stands there, names the front one, and says the same of the disk
pub record ReadsBackup (image : ℕ → ℕ) (len z : ℕ) (front back : GptHeader) (slot : ℕ → GptEntry) : Type 0 where
  pub header : ReadsHeader image len z back slot
  pub own : back.own ≡ front.other
  pub other : back.other ≡ 1
  pub first_usable : back.first_usable ≡ front.first_usable
  pub last_usable : back.last_usable ≡ front.last_usable
  pub disk : back.disk ≡ front.disk

-- an image whose table has these headers and slots; there is a backup where the front header doesn't name itself
pub record ReadsGpt (image : ℕ → ℕ) (len z : ℕ) (front back : GptHeader) (slot : ℕ → GptEntry) : Type 0 where
  pub header : ReadsHeader image len z front slot
  pub own : front.own ≡ 1
  pub backup : front.other ≢ 1 → ReadsBackup image len z front back slot

-- an image that has the bytes of a table where they stand
pub record HoldsGpt (image : ℕ → ℕ) (spec : GptSpec) : Type 0 where
  pub front : (o : ℕ) → o < spec.sector → image (spec.sector + o) ≡ front_byte spec o
  pub entries : (o : ℕ) → o < 16384 → image (spec.entries_at * spec.sector + o) ≡ entries_byte spec.entries o
  pub back_entries : spec.backup ≡ true → (o : ℕ) → o < 16384 → image (back_entries_at spec * spec.sector + o) ≡ entries_byte spec.entries o
  pub back : spec.backup ≡ true → (o : ℕ) → o < spec.sector → image (last_sector spec * spec.sector + o) ≡ back_byte spec o

-- each image that is at least as long as the disk and has the bytes of a table reads as what it was
-- made of, with its backup where it has one. An entry of the nil type reads back like any other
abbrev pub GptReadsBack : Type 0
GptReadsBack =
    (spec : GptSpec) (image : ℕ → ℕ) (len : ℕ) → GptFits spec → HasRoom spec
    → spec.sectors * spec.sector ≤ len → HoldsGpt image spec
    → ReadsGpt image len spec.sector (front_header spec) (back_header spec) (slot_of spec.entries)
