-- What the answer of `list` says of the file of that name, of the counts and of the lines.
use Rattle.std.specs.Prelude.{◌≡◌, ℕ, List, Result}
use Rattle.base_fields.specs.Results.{refused_by}
use Rattle.outside.specs.Counts.{Counts, Rose}
use Rattle.outside.specs.Files.{Tree}
use Rattle.answer_lines.specs.declared.answer.Answer.{Answer}
use Rattle.answer_lines.specs.declared.answer.Answer.TheVariants as answer
use Rattle.answer_lines.specs.declared.answer.Report.{Report}
use Rattle.answer_lines.specs.declared.answer.Report.TheVariants as report
use Rattle.list_job.specs.Faults.{IsShown}
use Rattle.list_job.specs.Listings.{listing_of}
use Rattle.list_job.specs.Printed.{listing_lines}
use Rattle.list_job.specs.declared.fault.ListFault.{ListFault}
use Rattle.list_job.specs.declared.fault.ListFault.TheVariants as fault
use Rattle.list_job.specs.declared.listing.Listing.{Listing}
use Rattle.job_answers.specs.Said.{IsCausedBy, IsExpected, Says, said_lines}

-- the answer of each fault of the reading of a file of that name
abbrev pub list_answer : List ℕ → ListFault → Answer
list_answer name (fault.BadMagic at) = answer.BadMagic at
list_answer name (fault.BadChunk k) = answer.BadChunk k
list_answer name (fault.Counts want got) = answer.Counts want got
list_answer name fault.NoTable = answer.NoTable
list_answer name (fault.BadGpt at) = answer.BadGpt at
list_answer name (fault.BadSum at want got) = answer.BadSum at want got
list_answer name (fault.BadChain at) = answer.BadChain at
list_answer name (fault.Short at) = answer.Short at
list_answer name fault.Missing = answer.Missing name
list_answer name fault.FileFault = answer.FileFault
list_answer name fault.NoMemory = answer.NoMemory

-- what stands in the file of that name, or why it can't be listed
abbrev pub list_said : Tree → List ℕ → Result Listing Answer
list_said file name = refused_by (list_answer name) (listing_of (file name))

abbrev pub is_listed : Listing → Report → Type 0
is_listed listing said = said ≡ report.Listed

-- what stands there is listed, or the first thing that is wrong with it is answered
abbrev pub ListAnswers : Tree → List ℕ → Answer → Type 0
ListAnswers file name answer = Says (list_said file name) is_listed answer

-- its cause, by the counts of the files and of the lines
abbrev pub ListCause : List ℕ → Counts → Counts → ℕ → ℕ → Answer → Type 0
ListCause name before now lines_before lines_now answer =
    IsCausedBy (IsShown before now) (list_answer name) lines_before lines_now answer

-- where no call and no line failed
abbrev pub ListCompletes : Tree → List ℕ → Counts → Counts → ℕ → ℕ → Answer → Type 0
ListCompletes file name before now lines_before lines_now answer =
    ¬ (Rose before.faults now.faults) → ¬ (Rose lines_before lines_now) → IsExpected (list_said file name) answer

abbrev pub list_lines : Tree → List ℕ → Answer → List (List ℕ)
list_lines file name answer = said_lines (list_said file name) listing_lines answer
