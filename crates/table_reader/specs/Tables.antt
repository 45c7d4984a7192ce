-- The tables of an image, by what its first sector shows.
use Rattle.std.specs.Prelude.{◌≡◌, ℕ, ◌≤◌, ◌⊎◌, List, [], length, Option, None, Some, Result, Ok, Err}
use Rattle.base_fields.specs.Results.{◌>>=◌, or_else}
use Rattle.base_fields.specs.declared.spans.TableKind.{TableKind}
use Rattle.base_fields.specs.declared.spans.TableKind.TheVariants as table
use Rattle.mbr_table.specs.declared.mbr.MbrEntry.{MbrEntry}
use Rattle.mbr_table.specs.declared.mbr.MbrSpec.{MbrSpec}
use Rattle.table_reading.specs.Recognised.{kind_of, record_of}
use Rattle.table_reading.specs.Sector.{sector_of}
use Rattle.gpt_reading.specs.declared.tables.GptTable.{GptTable}
use Rattle.table_reader.specs.Chain.{logical_of}
use Rattle.table_reader.specs.Halves.{gpt_of}
use Rattle.table_reader.specs.Parts.{part_of}
use Rattle.table_reader.specs.declared.fault.TableFault.{TableFault}
use Rattle.table_reader.specs.declared.fault.TableFault.TheVariants.{Missing, NoTable}
use Rattle.table_reader.specs.declared.tables.Tables.{Tables}

abbrev pub mbr_tables : MbrSpec → List MbrEntry → Tables
mbr_tables spec logical = record { kind = table.Mbr; signature = spec.signature; slots = spec.entries; logical = logical; gpt = None; sector = 512 }

abbrev pub gpt_tables : TableKind → MbrSpec → ℕ → GptTable → Tables
gpt_tables kind spec z gpt = record { kind = kind; signature = spec.signature; slots = spec.entries; logical = []; gpt = Some gpt; sector = z }

-- the chain beside a master boot record alone
abbrev pub chain_beside : List ℕ → MbrSpec → Result Tables TableFault
chain_beside bytes spec = logical_of bytes spec >>= λ logical. Ok (mbr_tables spec logical)

-- the GUID partition table; no chain is read beside it
abbrev pub gpt_beside : TableKind → List ℕ → MbrSpec → Result Tables TableFault
gpt_beside kind bytes spec = gpt_of bytes (sector_of kind bytes) >>= λ gpt. Ok (gpt_tables kind spec (sector_of kind bytes) gpt)

-- a master boot record never says that there is no table
abbrev pub tables_beside : TableKind → List ℕ → MbrSpec → Result Tables TableFault
tables_beside table.Gpt bytes spec = gpt_beside table.Gpt bytes spec
tables_beside table.Hybrid bytes spec = gpt_beside table.Hybrid bytes spec
tables_beside table.Mbr bytes spec = chain_beside bytes spec
tables_beside table.Bare bytes spec = chain_beside bytes spec

-- the tables of an image, or the first thing that is wrong with them
abbrev pub tables_in : List ℕ → Result Tables TableFault
tables_in bytes = do
  first ← part_of bytes 0 512
  spec ← or_else (record_of first) NoTable
  tables_beside (kind_of spec) bytes spec

-- the same of what stands under a name
abbrev pub tables_of : Option (List ℕ) → Result Tables TableFault
tables_of file = or_else file Missing >>= tables_in

-- ---- what always holds of tables

-- each entry of a GUID partition table has its slot, and is one of 128
pub record IsGpt (gpt : GptTable) : Type 0 where
  pub numbered : length gpt.slots ≡ length gpt.entries
  pub few : length gpt.entries ≤ 128

-- a kind that has a GUID partition table
abbrev pub IsGptKind : TableKind → Type 0
IsGptKind table.Gpt = Unit {0}
IsGptKind table.Hybrid = Unit {0}
IsGptKind table.Mbr = ⊥
IsGptKind table.Bare = ⊥

-- a GUID partition table is there exactly where the kind says so
abbrev pub HasGpt : TableKind → Option GptTable → Type 0
HasGpt table.Gpt (Some gpt) = IsGpt gpt
HasGpt table.Hybrid (Some gpt) = IsGpt gpt
HasGpt table.Mbr None = Unit {0}
HasGpt kind gpt = ⊥

-- there are at most 256 logical partitions
pub record AreTables (tables : Tables) : Type 0 where
  pub gpt : HasGpt tables.kind tables.gpt
  pub few : length tables.logical ≤ 256
  pub sector : (tables.sector ≡ 512) ⊎ (tables.sector ≡ 4096)
