-- What the answer of a build says of what is asked for, of the counts, of the files and of the lines. The plan is the graph
-- of the configuration, or the refusal of that. Each word goes by the answer's kind.
use Rattle.std.specs.Prelude.{◌≡◌, ℕ, List, [], ◌∷◌, ◌++◌, Result, Ok, Err, IsOk, IsOkAnd, MatchBool, MatchResult, length, map}
use Rattle.outside.specs.Counts.{Counts, Rose}
use Rattle.outside.specs.Files.{Tree, bytes_of}
use Rattle.answer_lines.specs.Answer.{error_text}
use Rattle.answer_lines.specs.Kind.{Kind, Finished, LineFailed, Counted, Refused, kind_of}
use Rattle.answer_lines.specs.Lines.{built_text, image_text}
use Rattle.answer_lines.specs.declared.answer.Answer.{Answer}
use Rattle.answer_lines.specs.declared.answer.Answer.TheVariants.{BadText, UnknownKey, BadValue, Unset, DeepInclude, TooLong}
use Rattle.answer_lines.specs.declared.answer.Answer.TheVariants.{TooMany, NoKind, NoFlash, NameClash, Cycle, TooManyEntries}
use Rattle.answer_lines.specs.declared.answer.Answer.TheVariants.{Misaligned, BadHoles, BadAutoresize, FileTooLarge, NoSize}
use Rattle.answer_lines.specs.declared.answer.Answer.TheVariants.{TooFar, Overlap, ImageTooSmall, NotOnBlock, PastFlash}
use Rattle.answer_lines.specs.declared.answer.Answer.TheVariants.{Missing, SourceShort, FileFault, NoMemory}
use Rattle.answer_lines.specs.declared.answer.Report.TheVariants as report
use Rattle.build_job.specs.Faults.{IsEnded}
use Rattle.build_job.specs.Files.{StayOutside}
use Rattle.build_job.specs.declared.faults.BuildFault.{BuildFault}
use Rattle.build_laws.specs.Builds.{Built}
use Rattle.build_laws.specs.Order.{ordered}
use Rattle.image_graph.specs.declared.images.Graph.{Graph}
use Rattle.image_specs.specs.Specs.{full_names}
use Rattle.image_specs.specs.declared.specs.ImageSpec.{ImageSpec}
use Rattle.job_answers.specs.Printed.{is_counted}
use Rattle.image_jobs.specs.Answering.{build_answer}

-- ---- the answer

-- the images before one in the order were built, and by the files that they left that one is refused so
pub record IsNotBuilt (graph : Graph) (before after : Tree) (answer : Answer) : Type 0 where
  pub fault : BuildFault
  pub ended : IsEnded graph before after fault
  pub is : answer ≡ build_answer graph fault

-- so it is, or a call failed or memory was refused
abbrev pub IsUnbuilt : Graph → Tree → Tree → Answer → Type 0
IsUnbuilt graph before after answer = MatchBool (is_counted answer) (Unit {0}) (IsNotBuilt graph before after answer)

-- the refusal of the plan, or that of an image
abbrev pub IsRefused : Result Graph Answer → Tree → Tree → Answer → Type 0
IsRefused (Ok graph) before after answer = IsNotBuilt graph before after answer
IsRefused (Err refusal) before after answer = refusal ≡ answer

abbrev pub answers_by : Result Graph Answer → Tree → Tree → Answer → Kind → Type 0
answers_by plan before after answer (Finished said) = IsOkAnd plan (λ graph. said ≡ report.Built (length (ordered graph)))
answers_by plan before after answer LineFailed = IsOk plan
answers_by plan before after answer Counted = Unit {0}
answers_by plan before after answer Refused = IsRefused plan before after answer

-- all images are done, or the plan or an image is refused, or a call failed or memory was refused; a line may fail where
-- the work is done
abbrev pub BuildAnswers : Result Graph Answer → Tree → Tree → Answer → Type 0
BuildAnswers plan before after answer = answers_by plan before after answer (kind_of answer)

-- ---- its cause

-- what shows an answer that comes before the lines: a call that failed, a name that wasn't there, an end, or no count; no
-- build gives another
pub data Cause : Type 0 where
  Failing : Cause
  Absence : Cause
  Ending : Cause
  Free : Cause
  Never : Cause

abbrev pub cause_of : Answer → Cause
cause_of FileFault = Failing
cause_of (Missing name) = Absence
cause_of (SourceShort name at) = Ending
cause_of (BadText name place) = Free
cause_of (UnknownKey name place) = Free
cause_of (BadValue name place) = Free
cause_of (Unset var) = Free
cause_of (DeepInclude name) = Free
cause_of (TooLong total) = Free
cause_of (TooMany count limit) = Free
cause_of (NoKind image count) = Free
cause_of (NoFlash image) = Free
cause_of (NameClash name) = Free
cause_of (Cycle name) = Free
cause_of (TooManyEntries count) = Free
cause_of (Misaligned part value align) = Free
cause_of (BadHoles part index) = Free
cause_of (BadAutoresize part room least) = Free
cause_of (FileTooLarge part has limit) = Free
cause_of (NoSize part) = Free
cause_of (TooFar part number limit) = Free
cause_of (Overlap a b) = Free
cause_of (ImageTooSmall has needs) = Free
cause_of (NotOnBlock part value pebsize) = Free
cause_of (PastFlash part end limit) = Free
cause_of NoMemory = Free
cause_of other = Never

abbrev pub shown_by : Counts → Counts → Cause → Type 0
shown_by before now Failing = Rose before.faults now.faults
shown_by before now Absence = Rose before.absences now.absences
shown_by before now Ending = Rose before.ends now.ends
shown_by before now Free = Unit {0}
shown_by before now Never = ⊥

-- its cause, by the counts of the files
abbrev pub IsShown : Counts → Counts → Answer → Type 0
IsShown before now answer = shown_by before now (cause_of answer)

abbrev pub cause_by : Counts → Counts → ℕ → ℕ → Answer → Kind → Type 0
cause_by before now lines_before lines_now answer (Finished said) = lines_now ≡ lines_before
cause_by before now lines_before lines_now answer LineFailed = Rose lines_before lines_now
cause_by before now lines_before lines_now answer Counted = IsShown before now answer
cause_by before now lines_before lines_now answer Refused = IsShown before now answer

-- the same of all answers: a line failed only where the printer's count rose, and none did where the work is done
abbrev pub BuildCause : Counts → Counts → ℕ → ℕ → Answer → Type 0
BuildCause before now lines_before lines_now answer = cause_by before now lines_before lines_now answer (kind_of answer)

-- ---- what is accepted

abbrev pub expected_by : Result Graph Answer → Tree → Tree → Answer → Kind → Type 0
expected_by plan before after answer (Finished said) = IsOk plan
expected_by plan before after answer LineFailed = ⊥
expected_by plan before after answer Counted = answer ≡ NoMemory
expected_by plan before after answer Refused = IsRefused plan before after answer

-- where no call on the files and no line failed: all images are done, or the plan or an image is refused, or memory was
abbrev pub IsComplete : Result Graph Answer → Tree → Tree → Counts → Counts → ℕ → ℕ → Answer → Type 0
IsComplete plan before after counts_before counts_now lines_before lines_now answer =
    ¬ (Rose counts_before.faults counts_now.faults)
    → ¬ (Rose lines_before lines_now)
    → expected_by plan before after answer (kind_of answer)

-- ---- the files

-- each image of the graph is built, and every other name is as before
abbrev pub AllBuilt : Tree → Tree → Graph → Type 0
AllBuilt before after graph = Built graph.specs before graph.specs after

abbrev pub built_by : Result Graph Answer → Tree → Tree → Kind → Type 0
built_by plan before after (Finished said) = IsOkAnd plan (AllBuilt before after)
built_by plan before after LineFailed = IsOkAnd plan (AllBuilt before after)
built_by plan before after Counted = Unit {0}
built_by plan before after Refused = Unit {0}

-- so it is where the work is done
abbrev pub HasBuilt : Result Graph Answer → Tree → Tree → Answer → Type 0
HasBuilt plan before after answer = built_by plan before after (kind_of answer)

-- whatever is answered, every name but those of the images is as before
abbrev pub BuildChanges : Result Graph Answer → Tree → Tree → Type 0
BuildChanges plan before after =
    MatchResult plan (λ graph. StayOutside (full_names graph.specs) before after) (λ _. after ≡ before)

-- ---- the lines

-- the line of an image by the files afterwards
abbrev pub image_line : Tree → ImageSpec → List ℕ
image_line after spec = image_text spec.full (length (bytes_of after spec.full))

-- one for each image in the order, and then that of their number
abbrev pub done_lines : Result Graph Answer → Tree → List (List ℕ)
done_lines (Ok graph) after = map (image_line after) (ordered graph) ++ built_text (length (ordered graph)) ∷ []
done_lines (Err refusal) after = []

abbrev pub lines_by : Result Graph Answer → Tree → Answer → Kind → List (List ℕ)
lines_by plan after answer (Finished said) = done_lines plan after
lines_by plan after answer LineFailed = done_lines plan after
lines_by plan after answer Counted = error_text answer ∷ []
lines_by plan after answer Refused = error_text answer ∷ []

-- those of an answer
abbrev pub build_lines : Result Graph Answer → Tree → Answer → List (List ℕ)
build_lines plan after answer = lines_by plan after answer (kind_of answer)
