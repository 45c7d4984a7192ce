-- The master boot record from its disk signature on (UEFI 2.10, section 5.2.1), as fields at their offsets in the image.
use Rattle.std.specs.Prelude.{◌≡◌, ℕ, ◌+◌, ◌-◌, ◌<◌, min, List, [], ◌∷◌, ◌++◌, Bool, false, ◌&&◌, ◌==◌, if◌then◌else◌, slice_index_or}
use Rattle.base_fields.specs.Fields.{Field, number}
use Rattle.base_fields.specs.Parts.{Part, fields_part}
use Rattle.mbr_table.specs.Chs.{Address, address_of, nowhere, chs_bytes}
use Rattle.mbr_table.specs.declared.mbr.MbrEntry.{MbrEntry}
use Rattle.mbr_table.specs.declared.mbr.MbrSpec.{MbrSpec}

-- a slot that is not in use
abbrev pub no_entry : MbrEntry
no_entry = record { active = false; kind = 0; first = 0; count = 0 }

-- an entry is empty where its type, first sector and count are 0
abbrev pub is_empty : MbrEntry → Bool
is_empty e = (e.kind == 0) && (e.first == 0) && (e.count == 0)

-- 80 for an active entry
abbrev pub status_of : MbrEntry → ℕ
status_of e = if is_empty e then 0 else if e.active then 0x80 else 0

-- the addresses of the first and the last sector of an entry whose first sector is counted from the sector `start`
abbrev pub first_address : ℕ → MbrEntry → Address
first_address start e = if is_empty e then nowhere else address_of (start + e.first)

abbrev pub last_address : ℕ → MbrEntry → Address
last_address start e = if is_empty e then nowhere else address_of (start + e.first + e.count - 1)

-- an entry that isn't empty has a last sector: its number on the disk is at least 0
abbrev pub HasLast : ℕ → MbrEntry → Type 0
HasLast start e = is_empty e ≡ false → 0 < start + e.first + e.count

-- the sixteen bytes of an entry that begin at an offset, all zero where it is empty
abbrev pub entry_fields : ℕ → ℕ → MbrEntry → List Field
entry_fields at start e =
    record { at = at; bytes = status_of e ∷ [] }
    ∷ record { at = at + 1; bytes = chs_bytes (first_address start e) }
    ∷ record { at = at + 4; bytes = e.kind ∷ [] }
    ∷ record { at = at + 5; bytes = chs_bytes (last_address start e) }
    ∷ number (at + 8) 4 e.first
    ∷ number (at + 12) 4 e.count
    ∷ []

-- the entry that protects the GUID partition table of a disk of so many sectors: from sector 1 to the last one, and no
-- more of them than the field holds (UEFI 2.10, section 5.2.3)
abbrev pub protective : ℕ → MbrEntry
protective sectors = record { active = false; kind = 0xEE; first = 1; count = min (sectors - 1) 0xFFFFFFFF }

-- 55 AA, which ends a boot record
abbrev pub mark : Field
mark = record { at = 510; bytes = 0x55 ∷ 0xAA ∷ [] }

-- the entry in slot number k, from 0
abbrev pub entry_of : MbrSpec → ℕ → MbrEntry
entry_of spec k = slice_index_or spec.entries k no_entry

-- the fields at 440 to 511; the sectors of each entry are counted from the start of the disk
abbrev pub mbr_fields : MbrSpec → List Field
mbr_fields spec =
    number 440 4 spec.signature
    ∷ number 444 2 0
    ∷ (entry_fields 446 0 (entry_of spec 0)
    ++ entry_fields 462 0 (entry_of spec 1)
    ++ entry_fields 478 0 (entry_of spec 2)
    ++ entry_fields 494 0 (entry_of spec 3)
    ++ mark ∷ [])

-- the part of a disk that a master boot record has: the bytes at 440 to 511
abbrev pub mbr_parts : MbrSpec → List Part
mbr_parts spec = fields_part 0 440 512 (mbr_fields spec) ∷ []
