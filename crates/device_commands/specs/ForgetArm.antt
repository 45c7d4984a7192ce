-- What the answer of `forget` says of the journal and of the counts, and what it leaves of the devices.
use Rattle.std.specs.Prelude.{◌≡◌, ◌⊎◌, ℕ, List, Option}
use Rattle.outside.specs.Counts.{Rose}
use Rattle.answer_lines.specs.Kind.{Kind, Finished, LineFailed, Counted, Refused, kind_of}
use Rattle.answer_lines.specs.declared.answer.Answer.{Answer}
use Rattle.answer_lines.specs.declared.answer.Answer.TheVariants.{DeviceFault, NoMemory}
use Rattle.answer_lines.specs.declared.answer.Report.{Report}
use Rattle.answer_lines.specs.declared.answer.Report.TheVariants.{Forgotten}
use Rattle.bench.specs.declared.Dev.TheVariants.{Journal}
use Rattle.bench.specs.Disk.{Disk, Keeps}
use Rattle.bench.specs.Meter.{Meter}
use Rattle.block_map.specs.declared.maps.BlockMap.{BlockMap}
use Rattle.copy_job.specs.Devices.{IsForgotten, WasHeld}
use Rattle.copy_journal.specs.Faults.{HasFailed}
use Rattle.copy_states.specs.Standing.{Since}
use Rattle.journal_format.specs.declared.jobs.JobId.{JobId}

-- ---- the answer, whatever is told

-- the report says whether the journal was held
abbrev pub IsForgetReport : Report → Type 0
IsForgetReport (Forgotten held) = Unit {0}
IsForgetReport other = ⊥

abbrev pub forget_cause : ℕ → ℕ → Meter → Meter → Answer → Kind → Type 0
forget_cause before now old new answer (Finished said) = IsForgetReport said × (now ≡ before)
forget_cause before now old new answer LineFailed = Rose before now
forget_cause before now old new answer Counted = (answer ≡ NoMemory) ⊎ ((answer ≡ DeviceFault Journal) × HasFailed Journal old new)
forget_cause before now old new answer Refused = ⊥

-- it is done, or its line or a call on the journal failed, by the counts of the lines and of the devices, or memory was
-- refused for its words
abbrev pub ForgetCause : ℕ → ℕ → Meter → Meter → Answer → Type 0
ForgetCause before now old new answer = forget_cause before now old new answer (kind_of answer)

-- ---- the journal, where the bench tells it

-- it was held exactly where the report says so
abbrev pub tells_held : Disk → Report → Type 0
tells_held old (Forgotten held) = WasHeld old held
tells_held old other = ⊥

abbrev pub forgets_by : Disk → Disk → Kind → Type 0
forgets_by old new (Finished said) = tells_held old said × IsForgotten old new
forgets_by old new LineFailed = IsForgotten old new
forgets_by old new Counted = Unit {0}
forgets_by old new Refused = ⊥

-- where the work is done, no image of the journal is held, and nothing else has changed
abbrev pub Forgets : Disk → Disk → Answer → Type 0
Forgets old new answer = forgets_by old new (kind_of answer)

-- whatever is answered: for each copy, where each pair at the start has Since, so has each pair since
abbrev pub ForgettingKeepsSince : Disk → Disk → Type 0
ForgettingKeepsSince old new = (id : JobId) (m : BlockMap) (source : Option (List ℕ)) (before : List ℕ) →
    Keeps (Since id m source before) old new
