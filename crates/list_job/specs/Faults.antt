-- Why an image is not listed.
use Rattle.std.specs.Prelude.{◌≡◌, ◌≢◌, ◌-◌, ◌^◌, ◌%◌, ◌<◌, Bool, true, false}
use Rattle.outside.specs.Counts.{Counts, Rose}
use Rattle.sparse_reader.specs.Header.{IsField}
use Rattle.sparse_reader.specs.declared.fault.SparseFault.{SparseFault}
use Rattle.sparse_reader.specs.declared.fault.SparseFault.TheVariants as sparse
use Rattle.table_reader.specs.declared.fault.TableFault.{TableFault}
use Rattle.table_reader.specs.declared.fault.TableFault.TheVariants as table
use Rattle.list_job.specs.declared.fault.ListFault.{ListFault}
use Rattle.list_job.specs.declared.fault.ListFault.TheVariants as fault

-- the fault of a sparse image
abbrev pub of_sparse : SparseFault → ListFault
of_sparse (sparse.BadMagic at) = fault.BadMagic at
of_sparse (sparse.BadChunk k) = fault.BadChunk k
of_sparse (sparse.Short at) = fault.Short at
of_sparse (sparse.Counts want got) = fault.Counts want got
of_sparse sparse.Missing = fault.Missing
of_sparse sparse.FileFault = fault.FileFault

-- the fault of a partition table
abbrev pub of_table : TableFault → ListFault
of_table table.NoTable = fault.NoTable
of_table (table.BadGpt at) = fault.BadGpt at
of_table (table.BadSum at want got) = fault.BadSum at want got
of_table (table.BadChain at) = fault.BadChain at
of_table (table.Short at) = fault.Short at
of_table table.Missing = fault.Missing
of_table table.FileFault = fault.FileFault
of_table table.NoMemory = fault.NoMemory

-- a call failed or memory was refused
abbrev pub is_counted : ListFault → Bool
is_counted fault.FileFault = true
is_counted fault.NoMemory = true
is_counted refusal = false

-- a failed call and a missing name come only where their count rose; two numbers differ; a bad field is one of those of a
-- sparse header, and a bad record begins a sector. That a file is short can be seen by its length alone
abbrev pub IsShown : Counts → Counts → ListFault → Type 0
IsShown before now fault.FileFault = Rose before.faults now.faults
IsShown before now fault.Missing = Rose before.absences now.absences
IsShown before now (fault.Short at) = Unit {0}
IsShown before now (fault.BadMagic at) = IsField at
IsShown before now (fault.BadChunk k) = k < 2 ^ 32 - 1
IsShown before now (fault.Counts want got) = want ≢ got
IsShown before now (fault.BadSum at want got) = want ≢ got
IsShown before now (fault.BadChain at) = at % 512 ≡ 0
IsShown before now (fault.BadGpt at) = Unit {0}
IsShown before now fault.NoTable = Unit {0}
IsShown before now fault.NoMemory = Unit {0}
