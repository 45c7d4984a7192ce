-- The list of logical partitions that the links of an image give. Nothing here knows how a record is written.
use Rattle.std.specs.Prelude.{◌≡◌, ℕ, ◌+◌, ◌*◌, ◌%◌, ◌^◌, ◌<◌, ◌≤◌, List, [], ◌∷◌, true, false, length, map}
use Rattle.base_fields.specs.Fields.{byte_of}
use Rattle.mbr_table.specs.Mbr.{is_empty}
use Rattle.mbr_table.specs.Reading.{IsMarked, slot_at}
use Rattle.mbr_table.specs.declared.mbr.MbrEntry.{MbrEntry}
use Rattle.extended_chain.specs.Chain.{Ascends, logical_of, record_fields, start_of}
use Rattle.extended_chain.specs.declared.chain.LogicalSpec.{LogicalSpec}

-- the first and the second entry of the record in a sector
abbrev pub own_at : (ℕ → ℕ) → ℕ → MbrEntry
own_at image sector = slot_at image (512 * sector + 446)

abbrev pub link_at : (ℕ → ℕ) → ℕ → MbrEntry
link_at image sector = slot_at image (512 * sector + 462)

-- the record in a sector has 55 AA and a first entry that isn't empty, which is this partition; its first
-- sector is counted from the record, modulo 2^32
pub record RecordReads (image : ℕ → ℕ) (sector : ℕ) (e : MbrEntry) : Type 0 where
  pub marked : IsMarked image (512 * sector)
  pub used : is_empty (own_at image sector) ≡ false
  pub entry : e ≡ record (own_at image sector) { first = (sector + (own_at image sector).first) % 2 ^ 32 }

-- the records from the one in a sector on have these partitions: a second entry that is empty ends them, and any
-- other leads, counted from the start of the extended partition, to a later sector
abbrev pub ChainFrom : (ℕ → ℕ) → ℕ → ℕ → List MbrEntry → Type 0
ChainFrom image start sector [] = ⊥
ChainFrom image start sector (e ∷ []) = RecordReads image sector e × (is_empty (link_at image sector) ≡ true)
ChainFrom image start sector (e ∷ f ∷ rest) =
    RecordReads image sector e
    × (is_empty (link_at image sector) ≡ false)
    × (sector < start + (link_at image sector).first)
    × ChainFrom image start (start + (link_at image sector).first) (f ∷ rest)

-- the chain of the extended partition that begins in a sector has these partitions, in at most 256 records
pub record ChainReads (image : ℕ → ℕ) (start : ℕ) (entries : List MbrEntry) : Type 0 where
  pub few : length entries ≤ 256
  pub records : ChainFrom image start start entries

-- a logical partition in sectors of the disk
abbrev pub logical_entry : LogicalSpec → MbrEntry
logical_entry s = record { active = s.active; kind = s.kind; first = s.first; count = s.count }

-- the numbers of a logical partition fit their fields
pub record LogicalFits (s : LogicalSpec) : Type 0 where
  pub kind : s.kind < 2 ^ 8
  pub head : s.head < 2 ^ 32
  pub first : s.first < 2 ^ 32
  pub count : s.count < 2 ^ 32

-- an image that has the bytes of each record in that record's sector
abbrev pub HoldsChain : (ℕ → ℕ) → List LogicalSpec → Type 0
HoldsChain image specs =
    (k : ℕ) → k < length specs → (o : ℕ) → o < 512 → image (512 * (logical_of specs k).head + o) ≡ byte_of (record_fields specs k) o

-- each image that has the records of up to 256 logical partitions, of which there is at least one, reads as these
abbrev pub ChainReadsBack : Type 0
ChainReadsBack =
    (specs : List LogicalSpec) (image : ℕ → ℕ) → 0 < length specs → length specs ≤ 256
    → ((k : ℕ) → k < length specs → LogicalFits (logical_of specs k)) → Ascends specs → HoldsChain image specs
    → ChainReads image (start_of specs) (map logical_entry specs)
