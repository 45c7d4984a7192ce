-- The list of logical partitions that the links of an extended partition give.
use Rattle.std.specs.Prelude.{ℕ, zero, suc, ◌*◌, ◌-◌, ◌==◌, List, [], ◌∷◌, Option, None, Some, Result, Ok, Err, if◌then◌else◌}
use Rattle.base_fields.specs.Results.{◌>>=◌, or_else}
use Rattle.mbr_table.specs.Mbr.{entry_of}
use Rattle.mbr_table.specs.declared.mbr.MbrEntry.{MbrEntry}
use Rattle.mbr_table.specs.declared.mbr.MbrSpec.{MbrSpec}
use Rattle.table_reading.specs.Recognised.{extended_slot}
use Rattle.table_reading.specs.Record.{boot_record_in}
use Rattle.table_reading.specs.declared.record.BootRecord.{BootRecord}
use Rattle.table_reader.specs.Parts.{part_of}
use Rattle.table_reader.specs.declared.fault.TableFault.{TableFault}
use Rattle.table_reader.specs.declared.fault.TableFault.TheVariants.{BadChain}

-- the record in a sector of the extended partition that begins in the sector `start`, or why there is none
abbrev pub boot_at : List ℕ → ℕ → ℕ → Result BootRecord TableFault
boot_at bytes start sector = part_of bytes (512 * sector) 512 >>= λ found. or_else (boot_record_in start sector found) (BadChain (512 * sector))

-- what a link leads to, and nothing where there is none
abbrev pub followed : (ℕ → Result (List MbrEntry) TableFault) → Option ℕ → Result (List MbrEntry) TableFault
followed find None = Ok []
followed find (Some sector) = find sector

-- the partitions of the records from the one in a sector on, of which there may be so many: the next one is bad, and
-- isn't read
unfoldable pub logicals_from : List ℕ → ℕ → ℕ → ℕ → Result (List MbrEntry) TableFault
logicals_from bytes start zero sector = Err (BadChain (512 * sector))
logicals_from bytes start (suc n) sector = do
  boot ← boot_at bytes start sector
  rest ← followed (logicals_from bytes start n) boot.next
  Ok (boot.logical ∷ rest)

-- at most 256 partitions, from the first sector of the extended partition on
abbrev pub chain_of : List ℕ → ℕ → Result (List MbrEntry) TableFault
chain_of bytes start = logicals_from bytes start 256 start

-- those of the slot of the extended partition, and none where there is no such slot
abbrev pub logical_of : List ℕ → MbrSpec → Result (List MbrEntry) TableFault
logical_of bytes spec = if extended_slot spec == 0 then Ok [] else chain_of bytes (entry_of spec (extended_slot spec - 1)).first
