-- What the first sector of an image says of its table: whether it has one, its kind, and the slot of its extended
-- partition. Nothing here knows how a table is written.
use Rattle.std.specs.Prelude.{ℕ, ◌==◌, Bool, ◌&&◌, ◌||◌, List, Option, None, Some, if◌then◌else◌, slice_index}
use Rattle.base_fields.specs.declared.spans.TableKind.{TableKind}
use Rattle.base_fields.specs.declared.spans.TableKind.TheVariants as table
use Rattle.mbr_table.specs.Mbr.{entry_of, is_empty}
use Rattle.mbr_table.specs.Reading.{spec_at}
use Rattle.mbr_table.specs.declared.mbr.MbrEntry.{MbrEntry}
use Rattle.mbr_table.specs.declared.mbr.MbrSpec.{MbrSpec}

-- bytes as an image: the byte at each offset
abbrev pub image_of : List ℕ → ℕ → ℕ
image_of bytes o = slice_index bytes o

-- 55 AA at 510
abbrev pub is_marked : List ℕ → Bool
is_marked bytes = (slice_index bytes 510 == 0x55) && (slice_index bytes 511 == 0xAA)

-- what a first sector says, where it is a master boot record
abbrev pub record_of : List ℕ → Option MbrSpec
record_of bytes = if is_marked bytes then Some (spec_at (image_of bytes)) else None

-- the first entry alone shows a GUID partition table, which is a hybrid where another slot is in use
abbrev pub kind_of : MbrSpec → TableKind
kind_of spec =
    if (entry_of spec 0).kind == 0xEE then
    (if is_empty (entry_of spec 1) && is_empty (entry_of spec 2) && is_empty (entry_of spec 3) then table.Gpt else table.Hybrid)
    else table.Mbr

-- the types of an extended partition
abbrev pub is_extended : MbrEntry → Bool
is_extended e = (e.kind == 0x05) || (e.kind == 0x0F)

-- the number, from 1, of the first slot that is an extended partition, and 0 where there is none
abbrev pub extended_slot : MbrSpec → ℕ
extended_slot spec =
    if is_extended (entry_of spec 0) then 1
    else if is_extended (entry_of spec 1) then 2
    else if is_extended (entry_of spec 2) then 3
    else if is_extended (entry_of spec 3) then 4
    else 0
