-- What one boot record of an extended partition says: its partition, and whether another record follows.
use Rattle.std.specs.Prelude.{ℕ, ◌+◌, ◌%◌, ◌^◌, ◌||◌, not, nat_lt, List, Option, None, Some, if◌then◌else◌}
use Rattle.mbr_table.specs.Mbr.{is_empty}
use Rattle.mbr_table.specs.Reading.{slot_at}
use Rattle.mbr_table.specs.declared.mbr.MbrEntry.{MbrEntry}
use Rattle.table_reading.specs.Recognised.{image_of, is_marked}
use Rattle.table_reading.specs.declared.record.BootRecord.{BootRecord}

-- the first and the second entry of a record
abbrev pub own_in : List ℕ → MbrEntry
own_in bytes = slot_at (image_of bytes) 446

abbrev pub link_in : List ℕ → MbrEntry
link_in bytes = slot_at (image_of bytes) 462

-- the partition of the record in a sector: its first sector is counted from the record, modulo 2^32
abbrev pub logical_in : ℕ → List ℕ → MbrEntry
logical_in sector bytes = record (own_in bytes) { first = (sector + (own_in bytes).first) % 2 ^ 32 }

abbrev pub boot_record : MbrEntry → Option ℕ → BootRecord
boot_record logical next = record { logical = logical; next = next }

-- the record in a sector of the extended partition that begins in the sector `start`; None where it is a bad one: it
-- lacks 55 AA, its first entry is empty, or its second one leads to no later sector
abbrev pub boot_record_in : ℕ → ℕ → List ℕ → Option BootRecord
boot_record_in start sector bytes =
    if not (is_marked bytes) || is_empty (own_in bytes) then None
    else if is_empty (link_in bytes) then Some (boot_record (logical_in sector bytes) None)
    else if nat_lt sector (start + (link_in bytes).first)
    then Some (boot_record (logical_in sector bytes) (Some (start + (link_in bytes).first)))
    else None
