-- Where a table stands in an image, and which byte it has at each offset there.
use Rattle.std.specs.Prelude.{◌≡◌, ℕ, ◌+◌, ◌*◌, ◌≤◌, List, [], ◌∷◌, All, Option, Some, true, if◌then◌else◌}
use Rattle.base_fields.specs.Parts.{Part, part_byte}
use Rattle.gpt_table.specs.Gpt.{GptFits, HasRoom, back_byte, back_entries_at, entries_byte, entry_sectors, front_byte, last_sector}
use Rattle.gpt_table.specs.Reading.{HoldsGpt}
use Rattle.gpt_table.specs.declared.table.GptSpec.{GptSpec}

-- the sector of the front header
abbrev pub front_part : GptSpec → Part
front_part spec = record { at = spec.sector; len = spec.sector; byte = front_byte spec }

-- the entries in front
abbrev pub entries_part : GptSpec → Part
entries_part spec =
    record { at = spec.entries_at * spec.sector; len = 16384; byte = entries_byte spec.entries }

-- the entries of the backup
abbrev pub back_entries_part : GptSpec → Part
back_entries_part spec =
    record { at = back_entries_at spec * spec.sector; len = 16384; byte = entries_byte spec.entries }

-- the sector of the backup header
abbrev pub back_part : GptSpec → Part
back_part spec =
    record { at = last_sector spec * spec.sector; len = spec.sector; byte = back_byte spec }

-- the front header and its entries, and where there is a backup its entries and its header
abbrev pub gpt_parts : GptSpec → List Part
gpt_parts spec =
    front_part spec
    ∷ entries_part spec
    ∷ (if spec.backup then back_entries_part spec ∷ back_part spec ∷ [] else [])

-- the byte of the table at an offset of the image, and None where the table has none
unfoldable pub gpt_byte : GptSpec → ℕ → Option ℕ
gpt_byte spec o = part_byte (gpt_parts spec) o

-- no two parts meet: the entries stand behind the front header, and the backup behind them
pub record IsApart (spec : GptSpec) : Type 0 where
  pub front : 2 ≤ spec.entries_at
  pub back : spec.backup ≡ true → spec.entries_at + entry_sectors spec ≤ back_entries_at spec

-- an image that has the table's byte at each offset where the table has one
abbrev pub GptHolds : Type 0
GptHolds =
    (spec : GptSpec) (image : ℕ → ℕ) → GptFits spec → IsApart spec
    → ((o b : ℕ) → gpt_byte spec o ≡ Some b → image o ≡ b) → HoldsGpt image spec

-- each part of a table whose front lies within the disk's sectors lies within them
abbrev pub GptLiesWithin : Type 0
GptLiesWithin =
    (spec : GptSpec) → GptFits spec → HasRoom spec
    → All (λ (p : Part). p.at + p.len ≤ spec.sectors * spec.sector) (gpt_parts spec)
