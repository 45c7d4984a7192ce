-- The master boot record beside a GUID partition table: an entry that protects the table, and up to three partitions.
use Rattle.std.specs.Prelude.{◌≡◌, ℕ, ◌+◌, ◌*◌, ◌^◌, ◌<◌, ◌≤◌, List, [], ◌∷◌, length, slice_index_or}
use Rattle.base_fields.specs.Fields.{Field, byte_of, number_at}
use Rattle.base_fields.specs.Parts.{Part}
use Rattle.mbr_table.specs.Mbr.{no_entry, mbr_fields, mbr_parts, protective}
use Rattle.mbr_table.specs.Reading.{EntryFits, IsMarked, slot_at}
use Rattle.mbr_table.specs.declared.mbr.MbrEntry.{MbrEntry}
use Rattle.mbr_table.specs.declared.mbr.MbrSpec.{MbrSpec}

-- the entry that protects the sectors up to the front end, and the given ones in order behind it
abbrev pub hybrid_spec : ℕ → ℕ → List MbrEntry → MbrSpec
hybrid_spec signature front given = record {
  signature = signature;
  entries =
      protective front
      ∷ slice_index_or given 0 no_entry
      ∷ slice_index_or given 1 no_entry
      ∷ slice_index_or given 2 no_entry
      ∷ [];
}

-- the fields at 440 to 511
abbrev pub hybrid_fields : ℕ → ℕ → List MbrEntry → List Field
hybrid_fields signature front given = mbr_fields (hybrid_spec signature front given)

-- the part of a disk that it has: the bytes at 440 to 511
abbrev pub hybrid_parts : ℕ → ℕ → List MbrEntry → List Part
hybrid_parts signature front given = mbr_parts (hybrid_spec signature front given)

-- the numbers that are given fit their fields, and no empty entry is active
pub record HybridFits (signature : ℕ) (given : List MbrEntry) : Type 0 where
  pub few : length given ≤ 3
  pub signature_fits : signature < 2 ^ 32
  pub entries : (k : ℕ) → k < length given → EntryFits (slice_index_or given k no_entry)

-- an image that has these bytes at 440 to 511
abbrev pub HoldsHybrid : (ℕ → ℕ) → ℕ → ℕ → List MbrEntry → Type 0
HoldsHybrid image signature front given = (o : ℕ) → 440 ≤ o → o < 512 → image o ≡ byte_of (hybrid_fields signature front given) o

-- an image whose master boot record has this signature, the protective entry in its first slot, the given
-- entries in order in the next ones, and nothing in those that are left
pub record ReadsHybrid (image : ℕ → ℕ) (signature front : ℕ) (given : List MbrEntry) : Type 0 where
  pub marked : IsMarked image 0
  pub signature_read : number_at image 440 4 ≡ signature
  pub protected : slot_at image 446 ≡ protective front
  pub slots : (k : ℕ) → k < 3 → slot_at image (462 + 16 * k) ≡ slice_index_or given k no_entry

-- each image that has the bytes of a hybrid's master boot record reads as what they were made of
abbrev pub HybridReadsBack : Type 0
HybridReadsBack =
    (signature front : ℕ) (given : List MbrEntry) (image : ℕ → ℕ)
    → HybridFits signature given → HoldsHybrid image signature front given → ReadsHybrid image signature front given
