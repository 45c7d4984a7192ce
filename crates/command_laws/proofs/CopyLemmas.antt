-- A copy that can be done is done: each other answer goes against a clause.
use Rattle.std.proofs.Common.{◌≡◌, ℕ, List, Result, Ok, Err, refl, ap, subst, inl, inr}
use Rattle.std.specs.Prelude.{IfOk}
use Rattle.base_fields.specs.Results.{refused_by}
use Rattle.answer_lines.specs.Kind.{kind_of}
use Rattle.answer_lines.specs.declared.answer.Answer.{Answer}
use Rattle.answer_lines.specs.declared.answer.Answer.TheVariants as answer
use Rattle.answer_lines.specs.declared.answer.Report.TheVariants as report
use Rattle.bench.specs.Disk.{Disk, Looked}
use Rattle.bench.specs.declared.Dev.TheVariants.{Target, Journal}
use Rattle.copier_course.specs.declared.jobs.CopyJob.{CopyJob}
use Rattle.copy_job.specs.Said.{copying_said}
use Rattle.copy_job.specs.declared.faults.CopyJobFault.{CopyJobFault}
use Rattle.copy_laws.proofs.Endings.{one_outcome}
use Rattle.copy_laws.specs.Endings.{HasOneOutcome}
use Rattle.copy_opening.specs.Openings.{start_of}
use Rattle.copy_run.specs.Runs.{IsOutcome, OpensFor, RunHasOutcome, RunIsDone, WasOpened}
use Rattle.copy_states.specs.Outcomes.{EndsDone}
use Rattle.copier.specs.declared.faults.CopyFault.{CopyFault}
use Rattle.copy_run.specs.declared.running.Tally.{Tally}
use Rattle.device_commands.specs.CopyArm.{IsUnwritten, Tells, copy_answer, copy_expects, copy_wanted}
use Rattle.command_laws.proofs.MapLemmas.{said_job}
use Rattle.command_laws.specs.Copies.{IsCompleted}
use Rattle.command_laws.specs.Laws.{CopiesComplete}

-- there is a job, so its want is no answer
wants_a_job : {A E P : Type 0} (x : A) (e : E) → Ok x ≡ Err e → P
wants_a_job x e is = absurd (cc)

-- what a run tells that has its outcome
abbrev pub Ends : CopyJob → List ℕ → Disk → Result Tally CopyFault → Type 0
Ends job s old = IsOutcome job s (start_of old)

-- ---- by cases on the answer
completes : (source : List ℕ) (job : CopyJob) (s : List ℕ) (old new : Disk) (a : Answer) →
    WasOpened job (old.reads Target) (old.reads Journal) → EndsDone job.id job.map s (start_of old) →
    HasOneOutcome job.id job.map s (start_of old) → copy_expects source (Ok job) a (kind_of a) →
    Tells (OpensFor job (old.reads Target) (old.reads Journal)) a → Tells (RunIsDone job new) a → Tells (Ends job s old) a →
    (IsUnwritten a → Looked old new) → IsCompleted job old new a
completes source job s old new (answer.Done (report.Copied units written kept)) opened done one expects opens tells ends unwritten =
    inl (record { units = units; written = written; kept = kept; is = refl; done = tells })
completes source job s old new (answer.Done (report.Built images)) opened done one expects opens tells ends unwritten = absurd expects.1
completes source job s old new (answer.Done (report.Mapped ranges blocks)) opened done one expects opens tells ends unwritten = absurd expects.1
completes source job s old new (answer.Done (report.Forgotten held)) opened done one expects opens tells ends unwritten = absurd expects.1
completes source job s old new (answer.Done (report.Verified ranges)) opened done one expects opens tells ends unwritten = absurd expects.1
completes source job s old new (answer.Done report.Listed) opened done one expects opens tells ends unwritten = absurd expects.1
completes source job s old new (answer.Done (report.Demo seed size parts ranges units)) opened done one expects opens tells ends unwritten = absurd expects.1
completes source job s old new (answer.Done (report.Ganged targets)) opened done one expects opens tells ends unwritten = absurd expects.1
completes source job s old new (answer.Done (report.Cut pieces)) opened done one expects opens tells ends unwritten = absurd expects.1
completes source job s old new (answer.Done (report.Expanded size)) opened done one expects opens tells ends unwritten = absurd expects.1
completes source job s old new (answer.Done (report.Laid blocks bad)) opened done one expects opens tells ends unwritten = absurd expects.1
completes source job s old new answer.Usage opened done one expects opens tells ends unwritten = wants_a_job _ _ expects
completes source job s old new (answer.BadText name place) opened done one expects opens tells ends unwritten = wants_a_job _ _ expects
completes source job s old new (answer.UnknownKey name place) opened done one expects opens tells ends unwritten = wants_a_job _ _ expects
completes source job s old new (answer.BadValue name place) opened done one expects opens tells ends unwritten = wants_a_job _ _ expects
completes source job s old new (answer.Unset var) opened done one expects opens tells ends unwritten = wants_a_job _ _ expects
completes source job s old new (answer.DeepInclude name) opened done one expects opens tells ends unwritten = wants_a_job _ _ expects
completes source job s old new (answer.TooLong total) opened done one expects opens tells ends unwritten = wants_a_job _ _ expects
completes source job s old new (answer.TooMany count limit) opened done one expects opens tells ends unwritten = wants_a_job _ _ expects
completes source job s old new (answer.NoKind image count) opened done one expects opens tells ends unwritten = wants_a_job _ _ expects
completes source job s old new (answer.NoFlash image) opened done one expects opens tells ends unwritten = wants_a_job _ _ expects
completes source job s old new (answer.NameClash name) opened done one expects opens tells ends unwritten = wants_a_job _ _ expects
completes source job s old new (answer.Cycle name) opened done one expects opens tells ends unwritten = wants_a_job _ _ expects
completes source job s old new (answer.NoImage name) opened done one expects opens tells ends unwritten = wants_a_job _ _ expects
completes source job s old new (answer.Misaligned part value align) opened done one expects opens tells ends unwritten = wants_a_job _ _ expects
completes source job s old new (answer.BadHoles part index) opened done one expects opens tells ends unwritten = wants_a_job _ _ expects
completes source job s old new (answer.BadAutoresize part room least) opened done one expects opens tells ends unwritten = wants_a_job _ _ expects
completes source job s old new (answer.FileTooLarge part has limit) opened done one expects opens tells ends unwritten = wants_a_job _ _ expects
completes source job s old new (answer.NoSize part) opened done one expects opens tells ends unwritten = wants_a_job _ _ expects
completes source job s old new (answer.TooFar part number limit) opened done one expects opens tells ends unwritten = wants_a_job _ _ expects
completes source job s old new (answer.Overlap x y) opened done one expects opens tells ends unwritten = wants_a_job _ _ expects
completes source job s old new (answer.ImageTooSmall has needs) opened done one expects opens tells ends unwritten = wants_a_job _ _ expects
completes source job s old new (answer.TooManyEntries count) opened done one expects opens tells ends unwritten = wants_a_job _ _ expects
completes source job s old new (answer.NotOnBlock part value pebsize) opened done one expects opens tells ends unwritten = wants_a_job _ _ expects
completes source job s old new (answer.PastFlash part end limit) opened done one expects opens tells ends unwritten = wants_a_job _ _ expects
completes source job s old new (answer.PieceTooSmall needs limit) opened done one expects opens tells ends unwritten = wants_a_job _ _ expects
completes source job s old new (answer.TooManyPieces count limit) opened done one expects opens tells ends unwritten = wants_a_job _ _ expects
completes source job s old new (answer.Missing name) opened done one expects opens tells ends unwritten = wants_a_job _ _ expects
completes source job s old new (answer.BadMap place) opened done one expects opens tells ends unwritten = wants_a_job _ _ expects
completes source job s old new (answer.OtherVersion place) opened done one expects opens tells ends unwritten = wants_a_job _ _ expects
completes source job s old new (answer.OtherDigest place) opened done one expects opens tells ends unwritten = wants_a_job _ _ expects
completes source job s old new (answer.BadCounts want got) opened done one expects opens tells ends unwritten = wants_a_job _ _ expects
completes source job s old new (answer.SumDiffers want got) opened done one expects opens tells ends unwritten = wants_a_job _ _ expects
completes source job s old new answer.NoTable opened done one expects opens tells ends unwritten = wants_a_job _ _ expects
completes source job s old new (answer.BadGpt at) opened done one expects opens tells ends unwritten = wants_a_job _ _ expects
completes source job s old new (answer.BadSum at want got) opened done one expects opens tells ends unwritten = wants_a_job _ _ expects
completes source job s old new (answer.BadChain at) opened done one expects opens tells ends unwritten = wants_a_job _ _ expects
completes source job s old new (answer.BadChunk k) opened done one expects opens tells ends unwritten = wants_a_job _ _ expects
completes source job s old new (answer.Counts want got) opened done one expects opens tells ends unwritten = wants_a_job _ _ expects
completes source job s old new (answer.Short at) opened done one expects opens tells ends unwritten = wants_a_job _ _ expects
completes source job s old new (answer.BadMagic at) opened done one expects opens tells ends unwritten = wants_a_job _ _ expects
completes source job s old new (answer.Compressed name) opened done one expects opens tells ends unwritten = wants_a_job _ _ expects
completes source job s old new (answer.TooManyUnits count limit) opened done one expects opens tells ends unwritten = wants_a_job _ _ expects
completes source job s old new (answer.ImageStale has needs) opened done one expects opens tells ends unwritten = wants_a_job _ _ expects
completes source job s old new (answer.SizeDiffers name has needs) opened done one expects opens tells ends unwritten = wants_a_job _ _ expects
completes source job s old new (answer.NoRoom good needs) opened done one expects opens tells ends unwritten = wants_a_job _ _ expects
completes source job s old new (answer.TargetDiffers range want got) opened done one expects opens tells ends unwritten = wants_a_job _ _ expects
completes source job s old new (answer.TargetTooSmall has needs) opened done one expects opens tells ends unwritten = absurd (opens.2 opened.room)
completes source job s old new (answer.JournalHeld kept finished) opened done one expects opens tells ends unwritten = absurd (opened.fresh opens.1 opens.2.held)
completes source job s old new answer.NoJournal opened done one expects opens tells ends unwritten = absurd (opens.2 (opened.again opens.1).held)
completes source job s old new (answer.JournalForeign kept given len) opened done one expects opens tells ends unwritten = absurd (opens.2.other (opened.again opens.1))
completes source job s old new (answer.RangeDiffers range want got) opened done one expects opens tells ends unwritten =
    absurd (one.differing_isnt_done range want got ends done)
completes source job s old new (answer.SourceShort name at) opened done one expects opens tells ends unwritten = absurd (one.short_isnt_done at ends done)
completes source job s old new answer.FileFault opened done one expects opens tells ends unwritten = absurd (cc)
completes source job s old new (answer.DeviceFault dev) opened done one expects opens tells ends unwritten = absurd (cc)
completes source job s old new answer.NandFault opened done one expects opens tells ends unwritten = absurd (cc)
completes source job s old new answer.NoMemory opened done one expects opens tells ends unwritten = inr (record { is = refl; looked = unwritten tt })
completes source job s old new answer.PrintFault opened done one expects opens tells ends unwritten = absurd expects

-- ---- from the clauses
-- a run that tells its outcome has it, where the source is told and each pair at its start has Since
tells_its_end : (P Q : Result Tally CopyFault → Type 0) → ((end : Result Tally CopyFault) → P end → Q end) → (a : Answer) →
    Tells P a → Tells Q a
tells_its_end P Q go (answer.Done (report.Copied units written kept)) h = go _ h
tells_its_end P Q go (answer.Done (report.Built images)) h = tt
tells_its_end P Q go (answer.Done (report.Mapped ranges blocks)) h = tt
tells_its_end P Q go (answer.Done (report.Forgotten held)) h = tt
tells_its_end P Q go (answer.Done (report.Verified ranges)) h = tt
tells_its_end P Q go (answer.Done report.Listed) h = tt
tells_its_end P Q go (answer.Done (report.Demo seed size parts ranges units)) h = tt
tells_its_end P Q go (answer.Done (report.Ganged targets)) h = tt
tells_its_end P Q go (answer.Done (report.Cut pieces)) h = tt
tells_its_end P Q go (answer.Done (report.Expanded size)) h = tt
tells_its_end P Q go (answer.Done (report.Laid blocks bad)) h = tt
tells_its_end P Q go answer.Usage h = tt
tells_its_end P Q go (answer.BadText name place) h = tt
tells_its_end P Q go (answer.UnknownKey name place) h = tt
tells_its_end P Q go (answer.BadValue name place) h = tt
tells_its_end P Q go (answer.Unset var) h = tt
tells_its_end P Q go (answer.DeepInclude name) h = tt
tells_its_end P Q go (answer.TooLong total) h = tt
tells_its_end P Q go (answer.TooMany count limit) h = tt
tells_its_end P Q go (answer.NoKind image count) h = tt
tells_its_end P Q go (answer.NoFlash image) h = tt
tells_its_end P Q go (answer.NameClash name) h = tt
tells_its_end P Q go (answer.Cycle name) h = tt
tells_its_end P Q go (answer.NoImage name) h = tt
tells_its_end P Q go (answer.Misaligned part value align) h = tt
tells_its_end P Q go (answer.BadHoles part index) h = tt
tells_its_end P Q go (answer.BadAutoresize part room least) h = tt
tells_its_end P Q go (answer.FileTooLarge part has limit) h = tt
tells_its_end P Q go (answer.NoSize part) h = tt
tells_its_end P Q go (answer.TooFar part number limit) h = tt
tells_its_end P Q go (answer.Overlap x y) h = tt
tells_its_end P Q go (answer.ImageTooSmall has needs) h = tt
tells_its_end P Q go (answer.TooManyEntries count) h = tt
tells_its_end P Q go (answer.NotOnBlock part value pebsize) h = tt
tells_its_end P Q go (answer.PastFlash part end limit) h = tt
tells_its_end P Q go (answer.PieceTooSmall needs limit) h = tt
tells_its_end P Q go (answer.TooManyPieces count limit) h = tt
tells_its_end P Q go (answer.Missing name) h = tt
tells_its_end P Q go (answer.BadMap place) h = tt
tells_its_end P Q go (answer.OtherVersion place) h = tt
tells_its_end P Q go (answer.OtherDigest place) h = tt
tells_its_end P Q go (answer.BadCounts want got) h = tt
tells_its_end P Q go (answer.SumDiffers want got) h = tt
tells_its_end P Q go answer.NoTable h = tt
tells_its_end P Q go (answer.BadGpt at) h = tt
tells_its_end P Q go (answer.BadSum at want got) h = tt
tells_its_end P Q go (answer.BadChain at) h = tt
tells_its_end P Q go (answer.BadChunk k) h = tt
tells_its_end P Q go (answer.Counts want got) h = tt
tells_its_end P Q go (answer.Short at) h = tt
tells_its_end P Q go (answer.BadMagic at) h = tt
tells_its_end P Q go (answer.Compressed name) h = tt
tells_its_end P Q go (answer.TooManyUnits count limit) h = tt
tells_its_end P Q go (answer.ImageStale has needs) h = tt
tells_its_end P Q go (answer.SizeDiffers name has needs) h = tt
tells_its_end P Q go (answer.NoRoom good needs) h = tt
tells_its_end P Q go (answer.TargetDiffers range want got) h = tt
tells_its_end P Q go answer.FileFault h = tt
tells_its_end P Q go (answer.DeviceFault dev) h = tt
tells_its_end P Q go answer.NandFault h = tt
tells_its_end P Q go answer.NoMemory h = tt
tells_its_end P Q go answer.PrintFault h = (h.0, go _ h.1)
tells_its_end P Q go (answer.TargetTooSmall has needs) h = go _ h
tells_its_end P Q go (answer.JournalHeld kept finished) h = go _ h
tells_its_end P Q go answer.NoJournal h = go _ h
tells_its_end P Q go (answer.JournalForeign kept given len) h = go _ h
tells_its_end P Q go (answer.RangeDiffers range want got) h = go _ h
tells_its_end P Q go (answer.SourceShort name at) h = go _ h

job_there : (r : Result CopyJob CopyJobFault) (job : CopyJob) (P : CopyJob → Type 0) → r ≡ Ok job → IfOk r P → P job
job_there r job P same h = subst (λ (x : Result CopyJob CopyJobFault). IfOk x P) same h

pub complete : {B : Type 0} (told : Type 0) (disk : B → Disk) → told → CopiesComplete told disk
complete told disk is_told file request job was now old new answer can steady has =
    let said = can.said in
    let wanted : copy_wanted file request ≡ Ok job =
    ap (λ (r : Result CopyJob CopyJobFault). refused_by (copy_answer request) r) said in
    let expects = has.complete steady.files steady.lines steady.target steady.journal in
    let outcome : Tells (RunHasOutcome told (file job.source) job (disk old)) answer =
    job_there (copying_said file request) job (λ j. Tells (RunHasOutcome told (file j.source) j (disk old)) answer) said has.outcome in
    completes request.source job can.source (disk old) (disk new) answer can.opened can.ends
    (one_outcome job.id job.map can.source (start_of (disk old)) (said_job file request job can.unit said))
    (subst (λ (r : Result CopyJob Answer). copy_expects request.source r answer (kind_of answer)) wanted expects)
    (job_there (copying_said file request) job (λ j. Tells (OpensFor j ((disk old).reads Target) ((disk old).reads Journal)) answer) said has.opened)
    (job_there (copying_said file request) job (λ j. Tells (RunIsDone j (disk new)) answer) said has.copied)
    (tells_its_end (RunHasOutcome told (file job.source) job (disk old)) (Ends job can.source (disk old))
    (λ end h. h can.source can.before (is_told, can.there) can.since) answer outcome)
    has.unwritten
