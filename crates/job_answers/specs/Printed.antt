-- How an answer stands to what was wanted, and what it says of the printing: after the work, and where there is none.
use Rattle.std.specs.Prelude.{◌≡◌, ℕ, ◌⊎◌, Bool, true, false, List, [], ◌∷◌, Result, Ok, Err}
use Rattle.outside.specs.declared.printer.PrintErr.{PrintErr}
use Rattle.outside.specs.Counts.{Rose}
use Rattle.answer_lines.specs.Answer.{error_text}
use Rattle.answer_lines.specs.Kind.{Kind, Finished, LineFailed, Counted, Refused, kind_of}
use Rattle.answer_lines.specs.Lines.{copied_text, forgotten_text, mapped_text}
use Rattle.answer_lines.specs.declared.answer.Answer.{Answer}
use Rattle.answer_lines.specs.declared.answer.Answer.TheVariants.{Done, PrintFault, NoMemory}
use Rattle.answer_lines.specs.declared.answer.Report.{Report}
use Rattle.answer_lines.specs.declared.answer.Report.TheVariants as report

-- the wanted answer, or memory was refused for a name in it
abbrev pub IsCopied : Answer → Answer → Type 0
IsCopied wanted got = (got ≡ wanted) ⊎ (got ≡ NoMemory)

abbrev pub is_fault : Kind → Bool
is_fault (Finished said) = false
is_fault LineFailed = false
is_fault Counted = true
is_fault Refused = false

-- a call failed or memory was refused
abbrev pub is_counted : Answer → Bool
is_counted answer = is_fault (kind_of answer)

-- a kind with the one line of its error
abbrev pub HasError : Kind → Type 0
HasError (Finished said) = ⊥
HasError LineFailed = ⊥
HasError Counted = Unit {0}
HasError Refused = Unit {0}

abbrev pub IsRefusal : Answer → Type 0
IsRefusal answer = HasError (kind_of answer)

abbrev pub reported_by : Report → ℕ → ℕ → Kind → Type 0
reported_by wanted before now (Finished said) = (said ≡ wanted) × (now ≡ before)
reported_by wanted before now LineFailed = Rose before now
reported_by wanted before now Counted = ⊥
reported_by wanted before now Refused = ⊥

-- after the work: the report where no line failed, else the fault of a line
abbrev pub Reports : Report → ℕ → ℕ → Answer → Type 0
Reports wanted before now answer = reported_by wanted before now (kind_of answer)

-- the answer where the work is done and its lines were printed, or one wasn't
abbrev pub reported_of : Result Unit PrintErr → Report → Answer
reported_of (Ok printed) report = Done report
reported_of (Err failed) report = PrintFault

-- ---- the line of an answer that has one

-- that of a report of one line
abbrev pub report_line : Report → List (List ℕ)
report_line (report.Mapped ranges blocks) = mapped_text ranges blocks ∷ []
report_line (report.Copied units written kept) = copied_text units written kept ∷ []
report_line (report.Forgotten held) = forgotten_text held ∷ []
report_line other = []

abbrev pub line_by : Answer → Kind → List (List ℕ)
line_by answer (Finished said) = report_line said
line_by answer LineFailed = []
line_by answer Counted = error_text answer ∷ []
line_by answer Refused = error_text answer ∷ []

-- the one line of an answer; a line that failed isn't printed
abbrev pub line_of : Answer → List (List ℕ)
line_of answer = line_by answer (kind_of answer)
