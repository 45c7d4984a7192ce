-- What an answer says of a job whose work is wanted, or refused for a stated cause. Each word goes by the answer's kind.
use Rattle.std.specs.Prelude.{◌≡◌, ℕ, List, [], ◌∷◌, Result, Ok, Err, IsOk, IsOkAnd}
use Rattle.outside.specs.Counts.{Counts, Rose}
use Rattle.answer_lines.specs.Answer.{error_text}
use Rattle.answer_lines.specs.Kind.{Kind, Finished, LineFailed, Counted, Refused, kind_of}
use Rattle.answer_lines.specs.declared.answer.Answer.{Answer}
use Rattle.answer_lines.specs.declared.answer.Answer.TheVariants.{NoMemory}
use Rattle.answer_lines.specs.declared.answer.Report.{Report}
use Rattle.job_answers.specs.Printed.{IsCopied}

-- ---- the answer

abbrev pub says_by : {A : Type 0} → Result A Answer → (A → Report → Type 0) → Answer → Kind → Type 0
says_by wanted reports answer (Finished said) = IsOkAnd wanted (λ x. reports x said)
says_by wanted reports answer LineFailed = IsOk wanted
says_by wanted reports answer Counted = Unit {0}
says_by wanted reports answer Refused = wanted ≡ Err answer

-- the work is done and reported, or the wanted refusal is answered, or a call failed or memory was refused; a line may
-- fail where the work is done
abbrev pub Says : {A : Type 0} → Result A Answer → (A → Report → Type 0) → Answer → Type 0
Says wanted reports answer = says_by wanted reports answer (kind_of answer)

-- ---- its cause

-- a fault of the job that the counts show, and whose answer this is, or memory was refused for a name in it
pub record IsShownAs {E : Type 0} (shows : E → Type 0) (answer_of : E → Answer) (answer : Answer) : Type 0 where
  pub fault : E
  pub shown : shows fault
  pub is : IsCopied (answer_of fault) answer

abbrev pub caused_by : {E : Type 0} → (E → Type 0) → (E → Answer) → ℕ → ℕ → Answer → Kind → Type 0
caused_by shows answer_of before now answer (Finished said) = now ≡ before
caused_by shows answer_of before now answer LineFailed = Rose before now
caused_by shows answer_of before now answer Counted = IsShownAs shows answer_of answer
caused_by shows answer_of before now answer Refused = IsShownAs shows answer_of answer

-- what shows an answer, by how many lines failed before and now: a failed line where the work was done; none where its lines
-- were printed; and else a fault of the job
abbrev pub IsCausedBy : {E : Type 0} → (E → Type 0) → (E → Answer) → ℕ → ℕ → Answer → Type 0
IsCausedBy shows answer_of before now answer = caused_by shows answer_of before now answer (kind_of answer)

-- ---- what is accepted

abbrev pub expected_by : {A : Type 0} → Result A Answer → Answer → Kind → Type 0
expected_by wanted answer (Finished said) = IsOk wanted
expected_by wanted answer LineFailed = ⊥
expected_by wanted answer Counted = answer ≡ NoMemory
expected_by wanted answer Refused = wanted ≡ Err answer

-- where no call failed, the work is done or the wanted refusal is answered, or memory was refused
abbrev pub IsExpected : {A : Type 0} → Result A Answer → Answer → Type 0
IsExpected wanted answer = expected_by wanted answer (kind_of answer)

-- ---- the lines

abbrev pub wanted_lines : {A : Type 0} → Result A Answer → (A → List (List ℕ)) → List (List ℕ)
wanted_lines (Ok x) lines = lines x
wanted_lines (Err refusal) lines = []

abbrev pub said_lines_by : {A : Type 0} → Result A Answer → (A → List (List ℕ)) → Answer → Kind → List (List ℕ)
said_lines_by wanted lines answer (Finished said) = wanted_lines wanted lines
said_lines_by wanted lines answer LineFailed = wanted_lines wanted lines
said_lines_by wanted lines answer Counted = error_text answer ∷ []
said_lines_by wanted lines answer Refused = error_text answer ∷ []

-- those of the work, or the one of a refusal
abbrev pub said_lines : {A : Type 0} → Result A Answer → (A → List (List ℕ)) → Answer → List (List ℕ)
said_lines wanted lines answer = said_lines_by wanted lines answer (kind_of answer)
