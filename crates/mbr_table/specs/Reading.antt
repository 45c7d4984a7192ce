-- What the bytes of an image read as, an image being the byte at each offset. Nothing here knows how a table is written.
use Rattle.std.specs.Prelude.{◌≡◌, ℕ, ◌+◌, ◌*◌, ◌^◌, ◌<◌, ◌≤◌, ◌==◌, [], ◌∷◌, length, true, false}
use Rattle.base_fields.specs.Fields.{byte_of, number_at}
use Rattle.mbr_table.specs.Mbr.{mbr_fields, entry_of, is_empty}
use Rattle.mbr_table.specs.declared.mbr.MbrEntry.{MbrEntry}
use Rattle.mbr_table.specs.declared.mbr.MbrSpec.{MbrSpec}

-- the entry in the sixteen bytes from an offset: active exactly where the status is 80, and the addresses aren't looked at
abbrev pub slot_at : (ℕ → ℕ) → ℕ → MbrEntry
slot_at image o = record {
  active = image o == 0x80;
  kind = image (o + 4);
  first = number_at image (o + 8) 4;
  count = number_at image (o + 12) 4;
}

-- what the master boot record of an image says from its signature on
abbrev pub spec_at : (ℕ → ℕ) → MbrSpec
spec_at image = record {
  signature = number_at image 440 4;
  entries = slot_at image 446 ∷ slot_at image 462 ∷ slot_at image 478 ∷ slot_at image 494 ∷ [];
}

-- the sector from an offset on ends in 55 AA
abbrev pub IsMarked : (ℕ → ℕ) → ℕ → Type 0
IsMarked image o = (image (o + 510) ≡ 0x55) × (image (o + 511) ≡ 0xAA)

-- an image whose master boot record has this signature and these four slots
pub record ReadsMbr (image : ℕ → ℕ) (spec : MbrSpec) : Type 0 where
  pub marked : IsMarked image 0
  pub signature : number_at image 440 4 ≡ spec.signature
  pub slots : (k : ℕ) → k < 4 → slot_at image (446 + 16 * k) ≡ entry_of spec k

-- an image that has the bytes of a master boot record at 440 to 511
abbrev pub HoldsMbr : (ℕ → ℕ) → MbrSpec → Type 0
HoldsMbr image spec = (o : ℕ) → 440 ≤ o → o < 512 → image o ≡ byte_of (mbr_fields spec) o

-- the numbers of an entry fit their fields, and an empty one isn't active
pub record EntryFits (e : MbrEntry) : Type 0 where
  pub kind : e.kind < 2 ^ 8
  pub first : e.first < 2 ^ 32
  pub count : e.count < 2 ^ 32
  pub used : e.active ≡ true → is_empty e ≡ false

pub record MbrFits (spec : MbrSpec) : Type 0 where
  pub signature : spec.signature < 2 ^ 32
  pub four : length spec.entries ≡ 4
  pub entries : (k : ℕ) → k < 4 → EntryFits (entry_of spec k)

-- each image that has the bytes of a master boot record reads as what they were made of
abbrev pub MbrReadsBack : Type 0
MbrReadsBack = (spec : MbrSpec) (image : ℕ → ℕ) → MbrFits spec → HoldsMbr image spec → ReadsMbr image spec
