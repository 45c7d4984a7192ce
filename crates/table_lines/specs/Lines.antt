-- The lines of a partition table. A value that isn't a number in decimal digits is spelled in hexadecimal ones of lower
-- case, two for each byte.
use Rattle.std.specs.Prelude.{ℕ, ◌==◌, ◌&&◌, nat_le, if◌then◌else◌, List, [], ◌∷◌, ◌++◌, map, codes, decimal}
use Rattle.std.specs.Int.{bytes_high_first}
use Rattle.std.specs.List.{before_first}
use Rattle.hex.specs.Hex.{encode_lower}
use Rattle.uuid.specs.Text.{hyphenated_text, lower}
use Rattle.base_fields.specs.declared.spans.TableKind.{TableKind}
use Rattle.base_fields.specs.declared.spans.TableKind.TheVariants as table
use Rattle.mbr_table.specs.declared.mbr.MbrEntry.{MbrEntry}
use Rattle.gpt_table.specs.declared.entry.GptEntry.{GptEntry}
use Rattle.gpt_reading.specs.declared.tables.GptTable.{GptTable}
use Rattle.line_parts.specs.Line.{shown_flag, with_fields}
use Rattle.table_reader.specs.declared.tables.Tables.{Tables}

-- ---- values

-- the lowest bytes of a number, so many, the highest of them first
abbrev pub digits : ℕ → ℕ → List ℕ
digits bytes n = encode_lower (bytes_high_first bytes n)

-- an identifier in the form 8-4-4-4-12 (RFC 9562, section 4)
abbrev pub identifier : List ℕ → List ℕ
identifier id = hyphenated_text lower id

-- a unit that no printable character of ASCII has is shown as `?`
abbrev pub shown_unit : ℕ → ℕ
shown_unit unit = if nat_le 0x20 unit && nat_le unit 0x7E then unit else 0x3F

-- a name ends before its first unit that is zero
abbrev pub shown_units : List ℕ → List ℕ
shown_units units = map shown_unit (before_first (λ unit. unit == 0) units)

-- no image without a table is listed
abbrev pub kind_name : TableKind → List ℕ
kind_name table.Bare = []
kind_name table.Mbr = codes "mbr"
kind_name table.Gpt = codes "gpt"
kind_name table.Hybrid = codes "hybrid"

-- ---- lines

abbrev pub table_text : Tables → List ℕ
table_text tables =
    with_fields (codes "table " ++ kind_name tables.kind) ((codes "signature", digits 4 tables.signature) ∷ [])

-- what is said of an entry of a master boot record or of a logical partition
abbrev pub entry_fields : MbrEntry → List (List ℕ × List ℕ)
entry_fields e =
    (codes "type", digits 1 e.kind)
    ∷ (codes "active", shown_flag e.active)
    ∷ (codes "first", decimal e.first)
    ∷ (codes "count", decimal e.count)
    ∷ []

abbrev pub primary_text : ℕ → MbrEntry → List ℕ
primary_text slot e = with_fields (codes "primary") ((codes "slot", decimal slot) ∷ entry_fields e)

abbrev pub logical_text : ℕ → MbrEntry → List ℕ
logical_text number e = with_fields (codes "logical") ((codes "number", decimal number) ∷ entry_fields e)

-- sectors of 512 bytes are not named
abbrev pub sector_fields : ℕ → List (List ℕ × List ℕ)
sector_fields sector = if sector == 4096 then (codes "sector", decimal sector) ∷ [] else []

-- the disk's identifier and the LBAs that a partition may have
abbrev pub gpt_text : GptTable → ℕ → List ℕ
gpt_text gpt sector =
    with_fields (codes "gpt") ((codes "disk", identifier gpt.disk) ∷ (codes "first", decimal gpt.first_usable)
    ∷ (codes "last", decimal gpt.last_usable) ∷ sector_fields sector)

abbrev pub entry_text : ℕ → GptEntry → List ℕ
entry_text slot e =
    with_fields (codes "entry") ((codes "slot", decimal slot) ∷ (codes "type", identifier e.kind)
    ∷ (codes "own", identifier e.own) ∷ (codes "first", decimal e.first) ∷ (codes "last", decimal e.last)
    ∷ (codes "attrs", digits 8 e.attrs) ∷ (codes "name", shown_units e.name) ∷ [])
