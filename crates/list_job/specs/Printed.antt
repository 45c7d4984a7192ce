-- The lines that list an image.
use Rattle.std.specs.Prelude.{◌≡◌, ℕ, suc, List, [], ◌∷◌, ◌++◌, map, Option, None, Some, Result, OnOk, OnErr, if◌then◌else◌}
use Rattle.std.specs.List.{zip}
use Rattle.answer_lines.specs.Lines.{sparse_text}
use Rattle.gpt_reading.specs.declared.tables.GptTable.{GptTable}
use Rattle.gpt_table.specs.declared.entry.GptEntry.{GptEntry}
use Rattle.job_stages.specs.Printing.{PrintsFront, all_added}
use Rattle.mbr_table.specs.Mbr.{is_empty}
use Rattle.mbr_table.specs.declared.mbr.MbrEntry.{MbrEntry}
use Rattle.outside.specs.Counts.{Rose}
use Rattle.outside.specs.declared.printer.PrintErr.{PrintErr}
use Rattle.table_lines.specs.Lines.{entry_text, gpt_text, logical_text, primary_text, table_text}
use Rattle.table_reader.specs.declared.tables.Tables.{Tables}
use Rattle.list_job.specs.declared.listing.Listing.{Listing}
use Rattle.list_job.specs.declared.listing.Listing.TheVariants as listing

-- a slot has a line where it isn't empty
abbrev pub slot_lines : ℕ → MbrEntry → List (List ℕ)
slot_lines slot e = if is_empty e then [] else primary_text slot e ∷ []

-- the lines of entries of a record, the first of which has that number
abbrev pub lines_from : (ℕ → MbrEntry → List (List ℕ)) → ℕ → List MbrEntry → List (List ℕ)
lines_from lines number [] = []
lines_from lines number (e ∷ es) = lines number e ++ lines_from lines (suc number) es

-- slots are counted from 1
abbrev pub primary_lines : List MbrEntry → List (List ℕ)
primary_lines slots = lines_from slot_lines 1 slots

-- logical partitions are counted from 5
abbrev pub partition_lines : ℕ → MbrEntry → List (List ℕ)
partition_lines number e = logical_text number e ∷ []

abbrev pub logical_lines : List MbrEntry → List (List ℕ)
logical_lines logical = lines_from partition_lines 5 logical

-- the lines of entries, each with the number of its slot
abbrev pub entry_lines : List ℕ → List GptEntry → List (List ℕ)
entry_lines slots entries = map (λ (slot, e). entry_text slot e) (zip slots entries)

-- the line of a GUID partition table, and those of its entries
abbrev pub gpt_lines : Option GptTable → ℕ → List (List ℕ)
gpt_lines None sector = []
gpt_lines (Some gpt) sector = gpt_text gpt sector ∷ entry_lines gpt.slots gpt.entries

abbrev pub tables_lines : Tables → List (List ℕ)
tables_lines tables =
    table_text tables
    ∷ primary_lines tables.slots ++ (logical_lines tables.logical ++ gpt_lines tables.gpt tables.sector)

abbrev pub listing_lines : Listing → List (List ℕ)
listing_lines (listing.Sparse view) = sparse_text view ∷ []
listing_lines (listing.Tables tables) = tables_lines tables

-- ---- how they are printed

-- the work of one function: all its lines are printed and none failed, or a front of them is and one failed
pub record PrintsTurn (wanted : List (List ℕ)) (before now : Option (List (List ℕ))) (faults_before faults_now : ℕ) (r : Result Unit PrintErr) : Type 0 where
  pub steady : OnOk r (faults_now ≡ faults_before)
  pub printed : OnOk r (now ≡ all_added before wanted)
  pub failed : OnErr r (Rose faults_before faults_now)
  pub front : OnErr r (PrintsFront wanted before now)
