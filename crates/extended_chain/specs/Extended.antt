-- The entry of the extended partition, and the chain that an image has from there.
use Rattle.std.specs.Prelude.{◌≡◌, ℕ, ◌+◌, ◌-◌, ◌*◌, ◌<◌, ◌≤◌, max, List, [], ◌∷◌, false, length, map}
use Rattle.mbr_table.specs.Mbr.{entry_of}
use Rattle.mbr_table.specs.Reading.{HoldsMbr, MbrFits, ReadsMbr, slot_at}
use Rattle.mbr_table.specs.declared.mbr.MbrEntry.{MbrEntry}
use Rattle.mbr_table.specs.declared.mbr.MbrSpec.{MbrSpec}
use Rattle.extended_chain.specs.Chain.{Ascends, logical_of, start_of}
use Rattle.extended_chain.specs.ChainReading.{ChainReads, HoldsChain, LogicalFits, logical_entry}
use Rattle.extended_chain.specs.declared.chain.LogicalSpec.{LogicalSpec}

-- the greatest end of these partitions, the sector behind the last one, and 0 where there is none
abbrev pub greatest_end : List LogicalSpec → ℕ
greatest_end [] = 0
greatest_end (s ∷ specs) = max (s.first + s.count) (greatest_end specs)

-- the entry of the extended partition: from the first record to the greatest end of a logical partition
abbrev pub extended_entry_of : List LogicalSpec → MbrEntry
extended_entry_of specs = record { active = false; kind = 0x0F; first = start_of specs; count = greatest_end specs - start_of specs }

-- an image with the slots of this master boot record, of which number k leads to a chain of these partitions
pub record ReadsExtended (image : ℕ → ℕ) (spec : MbrSpec) (k : ℕ) (entries : List MbrEntry) : Type 0 where
  pub mbr : ReadsMbr image spec
  pub kind : (slot_at image (446 + 16 * k)).kind ≡ 0x0F
  pub chain : ChainReads image (slot_at image (446 + 16 * k)).first entries

-- each image that has a master boot record whose slot number k is the entry of the extended partition, and the records
-- of its logical partitions, reads as both, the chain from the sector that the slot gives
abbrev pub ExtendedReadsBack : Type 0
ExtendedReadsBack =
    (spec : MbrSpec) (k : ℕ) (specs : List LogicalSpec) (image : ℕ → ℕ) → MbrFits spec → k < 4 → entry_of spec k ≡ extended_entry_of specs
    → 0 < length specs → length specs ≤ 256 → ((j : ℕ) → j < length specs → LogicalFits (logical_of specs j)) → Ascends specs
    → HoldsMbr image spec → HoldsChain image specs → ReadsExtended image spec k (map logical_entry specs)
