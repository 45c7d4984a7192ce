-- What the header and the 16,384 bytes of entries of a GUID partition table say (UEFI 2.10, sections 5.3.2 and 5.3.3).
use Rattle.std.specs.Prelude.{ℕ, zero, suc, ◌+◌, ◌*◌, ◌==◌, Bool, not, List, [], ◌∷◌, ◌++◌, map, if◌then◌else◌}
use Rattle.std.specs.List.{list_any}
use Rattle.gpt_table.specs.Reading.{guid_at, slot_at}
use Rattle.gpt_table.specs.declared.entry.GptEntry.{GptEntry}
use Rattle.table_reading.specs.Header.{said}
use Rattle.table_reading.specs.Recognised.{image_of}
use Rattle.gpt_reading.specs.declared.tables.GptTable.{GptTable}

-- an entry is in use where its type GUID has a byte that isn't zero
abbrev pub is_used : GptEntry → Bool
is_used e = list_any (λ byte. not (byte == 0)) e.kind

-- the entry in slot number k, from 0
abbrev pub slot_in : List ℕ → ℕ → GptEntry
slot_in entries k = slot_at (image_of entries) (128 * k)

-- the numbers, from 0, of the slots in use below a number
unfoldable pub used_below : (ℕ → GptEntry) → ℕ → List ℕ
used_below slot zero = []
used_below slot (suc k) = used_below slot k ++ (if is_used (slot k) then k ∷ [] else [])

-- the table: the entries in use stand with the numbers of their slots, from 1
abbrev pub table_of : List ℕ → List ℕ → GptTable
table_of head entries = record {
  disk = guid_at (image_of head) 56;
  first_usable = said head 40 8;
  last_usable = said head 48 8;
  entries = map (slot_in entries) (used_below (slot_in entries) 128);
  slots = map (λ k. k + 1) (used_below (slot_in entries) 128);
}
