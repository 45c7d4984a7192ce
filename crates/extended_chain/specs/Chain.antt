-- The boot records of the logical partitions, each a sector, as fields at their offsets in that sector.
use Rattle.std.specs.Prelude.{ℕ, ◌+◌, ◌-◌, ◌*◌, ◌^◌, ◌<◌, List, [], ◌∷◌, ◌++◌, false, Option, None, Some, length, slice_get, slice_index_or}
use Rattle.base_fields.specs.Fields.{Field, byte_of}
use Rattle.base_fields.specs.Parts.{Part}
use Rattle.mbr_table.specs.Mbr.{entry_fields, no_entry, mark}
use Rattle.mbr_table.specs.declared.mbr.MbrEntry.{MbrEntry}
use Rattle.extended_chain.specs.declared.chain.LogicalSpec.{LogicalSpec}

-- what stands for a partition past the last one
abbrev pub no_logical : LogicalSpec
no_logical = record { active = false; kind = 0; head = 0; first = 0; count = 0 }

-- the logical partition number k, from 0
abbrev pub logical_of : List LogicalSpec → ℕ → LogicalSpec
logical_of specs k = slice_index_or specs k no_logical

-- the sector at which the extended partition begins: that of its first record
abbrev pub start_of : List LogicalSpec → ℕ
start_of specs = (logical_of specs 0).head

-- the entry of a logical partition: its first sector is counted from its record
abbrev pub own_entry : LogicalSpec → MbrEntry
own_entry s = record { active = s.active; kind = s.kind; first = s.first - s.head; count = s.count }

-- the entry that leads to the next record: that record's sector is counted from the start of the extended
-- partition, and the sectors reach from that record to the end of its partition
abbrev pub link_to : ℕ → Option LogicalSpec → MbrEntry
link_to start None = no_entry
link_to start (Some next) = record { active = false; kind = 0x05; first = next.head - start; count = next.first + next.count - next.head }

-- the two entries of a record, two that are empty, and 55 AA; there is no field below 446
abbrev pub boot_fields : ℕ → LogicalSpec → Option LogicalSpec → List Field
boot_fields start s next =
    entry_fields 446 s.head (own_entry s)
    ++ entry_fields 462 start (link_to start next)
    ++ entry_fields 478 0 no_entry
    ++ entry_fields 494 0 no_entry
    ++ mark ∷ []

-- the fields of the record number k, from 0
abbrev pub record_fields : List LogicalSpec → ℕ → List Field
record_fields specs k = boot_fields (start_of specs) (logical_of specs k) (slice_get specs (k + 1))

-- the part of a disk that a record has: its whole sector
abbrev pub record_part : ℕ → LogicalSpec → Option LogicalSpec → Part
record_part start s next = record { at = 512 * s.head; len = 512; byte = λ o. byte_of (boot_fields start s next) o }

-- the parts of the records of these partitions, each with the partition behind it
abbrev pub record_parts : ℕ → List LogicalSpec → List Part
record_parts start [] = []
record_parts start (s ∷ specs) = record_part start s (slice_get specs 0) ∷ record_parts start specs

abbrev pub chain_parts : List LogicalSpec → List Part
chain_parts specs = record_parts (start_of specs) specs

-- each record stands before its partition and before the next record, and the sectors from it to the end of
-- its partition fit a field
pub record Ascends (specs : List LogicalSpec) : Type 0 where
  pub ahead : (k : ℕ) → k < length specs → (logical_of specs k).head < (logical_of specs k).first
  pub rises : (k : ℕ) → k + 1 < length specs → (logical_of specs k).head < (logical_of specs (k + 1)).head
  pub fits : (k : ℕ) → k < length specs → (logical_of specs k).first + (logical_of specs k).count < (logical_of specs k).head + 2 ^ 32
