-- The two halves of a GUID partition table, each a header of 92 bytes and 16,384 bytes of entries (UEFI 2.10, section
-- 5.3): the one in front, and the backup. Z is the sector size.
use Rattle.std.specs.Prelude.{◌≡◌, ℕ, ◌+◌, ◌*◌, ◌==◌, Bool, true, false, List, Option, None, Some, option_map, Result, Ok, Err, if◌then◌else◌}
use Rattle.base_fields.specs.Crc.{crc32_of}
use Rattle.base_fields.specs.Results.{◌>>=◌, when}
use Rattle.table_reading.specs.Header.{fault_of, first_unmet, said}
use Rattle.table_reading.specs.declared.header.HeaderFault.{HeaderFault}
use Rattle.table_reading.specs.declared.header.HeaderFault.TheVariants as header
use Rattle.gpt_reading.specs.Differences.{agreements, first_unlike}
use Rattle.gpt_reading.specs.Used.{table_of}
use Rattle.gpt_reading.specs.declared.tables.GptTable.{GptTable}
use Rattle.table_reader.specs.Answers.{Refuses}
use Rattle.table_reader.specs.Parts.{part_of, unless}
use Rattle.table_reader.specs.declared.fault.TableFault.{TableFault}
use Rattle.table_reader.specs.declared.fault.TableFault.TheVariants.{BadGpt, BadSum}

-- what is wrong with a header that begins at an offset
abbrev pub refusal_at : ℕ → HeaderFault → TableFault
refusal_at at (header.Field field) = BadGpt (at + field)
refusal_at at (header.Sum stated computed) = BadSum (at + 16) stated computed

-- the 92 bytes of a right header at the LBA `own`
abbrev pub header_of : List ℕ → ℕ → ℕ → Bool → Result (List ℕ) TableFault
header_of bytes z own is_backup = part_of bytes (own * z) 92 >>= λ head. unless (option_map (refusal_at (own * z)) (fault_of own is_backup head)) head

-- where the entries of a header begin
abbrev pub entries_at : List ℕ → ℕ → ℕ
entries_at head z = said head 72 8 * z

-- entries that have the sum which the header at an offset states
abbrev pub summed : ℕ → List ℕ → List ℕ → Result (List ℕ) TableFault
summed at head entries = when (said head 88 4 == crc32_of entries) entries (BadSum (at + 88) (said head 88 4) (crc32_of entries))

-- the entries of a header that begins at an offset
abbrev pub entries_of : List ℕ → ℕ → ℕ → List ℕ → Result (List ℕ) TableFault
entries_of bytes z at head = part_of bytes (entries_at head z) 16384 >>= summed at head

-- a header and its entries
pub record Half : Type 0 where
  pub head : List ℕ
  pub entries : List ℕ

abbrev pub half : List ℕ → List ℕ → Half
half head entries = record { head = head; entries = entries }

abbrev pub half_of : List ℕ → ℕ → ℕ → Bool → Result Half TableFault
half_of bytes z own is_backup = do
  head ← header_of bytes z own is_backup
  entries ← entries_of bytes z (own * z) head
  Ok (half head entries)

-- the offset in the file of the first field and then of the first byte of the entries in which a backup at the LBA `own`
-- differs from the table in front
abbrev pub or_entry : Option ℕ → ℕ → ℕ → Half → Half → Option TableFault
or_entry (Some field) z own front back = Some (BadGpt (own * z + field))
or_entry None z own front back = option_map (λ k. BadGpt (entries_at back.head z + k)) (first_unlike front.entries back.entries)

abbrev pub unlike : ℕ → ℕ → Half → Half → Option TableFault
unlike z own front back = or_entry (first_unmet (agreements front.head back.head)) z own front back

-- the backup at the LBA `own` is that of the table in front
abbrev pub backup_at : List ℕ → ℕ → ℕ → Half → Result Unit TableFault
backup_at bytes z own front = half_of bytes z own true >>= λ back. unless (unlike z own front back) tt

-- a header that names itself as the other one has no backup
abbrev pub backup_of : List ℕ → ℕ → Half → Result Unit TableFault
backup_of bytes z front = if said front.head 32 8 == 1 then Ok tt else backup_at bytes z (said front.head 32 8) front

-- the table of an image, whose front header stands at LBA 1
abbrev pub gpt_of : List ℕ → ℕ → Result GptTable TableFault
gpt_of bytes z = do
  front ← half_of bytes z 1 false
  done ← backup_of bytes z front
  Ok (table_of front.head front.entries)

-- ---- how a half is read

-- a header is given and its entries are in a buffer, or the refusal is the wanted one
abbrev pub ReadsHalf : Result Half TableFault → List ℕ → Result (List ℕ) TableFault → Type 0
ReadsHalf wanted entries (Ok head) = wanted ≡ Ok (half head entries)
ReadsHalf wanted entries (Err refusal) = Refuses wanted refusal
