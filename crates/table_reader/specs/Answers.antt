-- What an answer says of a file's bytes, and of the counts of the files.
use Rattle.std.specs.Prelude.{◌≡◌, ◌≢◌, ℕ, ◌≤◌, ◌%◌, List, [], Option, None, Some, length, Result, Ok, Err}
use Rattle.outside.specs.Counts.{Counts, Rose}
use Rattle.outside.specs.Files.{Tree, IsThere, bytes_of}
use Rattle.base_fields.specs.Results.{or_else}
use Rattle.table_reader.specs.declared.fault.TableFault.{TableFault}
use Rattle.table_reader.specs.declared.fault.TableFault.TheVariants as fault

-- a refusal is the wanted one, or a call failed, or memory was refused
abbrev pub Refuses : {A : Type 0} → Result A TableFault → TableFault → Type 0
Refuses wanted fault.FileFault = Unit {0}
Refuses wanted fault.NoMemory = Unit {0}
Refuses wanted refusal = wanted ≡ Err refusal

abbrev pub Answers : {A : Type 0} → Result A TableFault → Result A TableFault → Type 0
Answers wanted (Ok got) = wanted ≡ Ok got
Answers wanted (Err refusal) = Refuses wanted refusal

-- a buffer has the wanted bytes, or the refusal is the wanted one
abbrev pub Reads : Result (List ℕ) TableFault → List ℕ → Result Unit TableFault → Type 0
Reads wanted got (Ok done) = wanted ≡ Ok got
Reads wanted got (Err refusal) = Refuses wanted refusal

-- the answer to a question about the length
abbrev pub HasLength : Tree → List ℕ → Result ℕ TableFault → Type 0
HasLength file name (Ok len) = IsThere file name (len ≡ length (bytes_of file name))
HasLength file name (Err refusal) = Refuses (or_else (file name) fault.Missing) refusal

-- a failed call and a missing name come only where their count rose; two sums differ; a bad record begins a sector. That
-- a file is short can be seen by its length alone
abbrev pub HasCause : Counts → Counts → TableFault → Type 0
HasCause before now fault.FileFault = Rose before.faults now.faults
HasCause before now fault.Missing = Rose before.absences now.absences
HasCause before now (fault.Short at) = Unit {0}
HasCause before now (fault.BadSum at want got) = want ≢ got
HasCause before now (fault.BadChain at) = at % 512 ≡ 0
HasCause before now (fault.BadGpt at) = Unit {0}
HasCause before now fault.NoTable = Unit {0}
HasCause before now fault.NoMemory = Unit {0}

-- the one refusal of a backup that isn't that of its table
abbrev pub IsBadGpt : TableFault → Type 0
IsBadGpt (fault.BadGpt at) = Unit {0}
IsBadGpt refusal = ⊥
