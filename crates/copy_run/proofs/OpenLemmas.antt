-- What the opening and the steps of a copier give a whole run: a is what the devices were before, b between the two, and
-- c then.
use Rattle.std.proofs.Common.{◌≡◌, ◌⊎◌, ℕ, ◌+◌, ◌*◌, ◌≤◌, List, length, inl, inr, refl, ap, subst, sym, ◌∙◌, arith}
use Rattle.std.specs.Prelude.{Err, IfErr, None, Ok, Option, Result, Some}
use Rattle.bench.proofs.DiskLemmas.{keeps_then, runs_so, runs_then}
use Rattle.bench.specs.declared.Dev.{Dev}
use Rattle.bench.specs.declared.Dev.TheVariants.{Journal, Target}
use Rattle.bench.specs.Disk.{Disk, Looked, Runs}
use Rattle.bench.specs.Meter.{Costs, Meter}
use Rattle.outside.specs.Counts.{Counts}
use Rattle.journal_format.specs.Journals.{IsHeld, IsOpenedFor, window_of}
use Rattle.copy_laws.specs.Narrowing.{IsNear}
use Rattle.copy_opening.specs.Openings.{OpeningIsNarrow, OpeningKeepsMarks, OpeningKeepsSince, start_of}
use Rattle.copy_opening.specs.Openings as opening
use Rattle.copy_opening.specs.declared.opening.Mode.{Mode}
use Rattle.copy_opening.specs.declared.opening.Mode.TheVariants.{Again, Fresh}
use Rattle.copy_stages.specs.Stages.{KeepsOwn}
use Rattle.copy_states.specs.Narrow as narrow
use Rattle.copy_states.specs.Narrow.{Narrow}
use Rattle.copier.specs.Beginnings.{BeginsIn}
use Rattle.copier.specs.Copiers.{CameAlong, Fits, IsSound, Progress}
use Rattle.copier.specs.Faults.{IsOpenFault, IsUnwritten, NoneIsLeft}
use Rattle.copier.specs.declared.faults.CopyFault.{CopyFault}
use Rattle.copier.specs.declared.faults.CopyFault.TheVariants.{TargetTooSmall, JournalHeld, NoJournal, JournalForeign, SourceShort, Missing, FileFault, DeviceFault, RangeDiffers, NoMemory}
use Rattle.copier_course.specs.Courses.{IsCopyJob}
use Rattle.copier_course.specs.declared.jobs.CopyJob.{CopyJob}
use Rattle.copy_tally.specs.Laws.{OpenedHaveNone, UnitsAreMapped}
use Rattle.copy_run.proofs.AnswerLemmas.{failed_more}
use Rattle.copy_run.proofs.CountLemmas.{stands_at}
use Rattle.copy_run.specs.Faults.{IsRunFault, most_work}
use Rattle.copy_run.specs.Runs.{IsWindowFor, OpensFor, RunHasOutcome, RunIsNarrow, RunIsTallied, RunKeepsMarks, RunKeepsSince, WasOpened}
use Rattle.copy_run.specs.Steps.{IsLastFault, StepsAreTallied, StepsHaveOutcome, StepsStayNear, most_steps, window_in}
use Rattle.copy_run.specs.declared.running.Tally.{Tally}

by_mode : (mode : Mode) (P : Type 0) → (mode ≡ Fresh → P) → (mode ≡ Again → P) → P
by_mode Fresh P fresh again = fresh refl
by_mode Again P fresh again = again refl

-- ---- an opening that is refused
pub open_answer : (told : Type 0) (job : CopyJob) (t j : List ℕ) (old new : Meter) (fault : CopyFault) → told → IsOpenFault told job t j old new fault →
    OpensFor job t j (Err fault)
open_answer told job t j old new (TargetTooSmall has needs) is cause = (cause.2 is, cause.0, λ room. omega (arith, cause.1, cause.2 is, room))
open_answer told job t j old new (JournalHeld kept finished) is cause = ((cause.1 is).1, cause.0, (cause.1 is).0)
open_answer told job t j old new NoJournal is cause = ((cause.1 is).1, cause.0, (cause.1 is).0)
open_answer told job t j old new (JournalForeign kept given len) is cause = ((cause.1 is).1, cause.0, (cause.1 is).0)
open_answer told job t j old new (SourceShort at) is cause = absurd cause
open_answer told job t j old new Missing is cause = absurd cause
open_answer told job t j old new FileFault is cause = absurd cause
open_answer told job t j old new (DeviceFault dev) is cause = tt
open_answer told job t j old new (RangeDiffers range want got) is cause = absurd cause
open_answer told job t j old new NoMemory is cause = tt

pub open_cause : (told : Type 0) (job : CopyJob) (t j : List ℕ) (disk : Disk) (before : Counts) (old new : Meter) (fault : CopyFault) →
    IsOpenFault told job t j old new fault → IsRunFault told job disk before before old new fault
open_cause told job t j disk before old new (TargetTooSmall has needs) cause = (cause.0, omega (arith, cause.0, cause.1))
open_cause told job t j disk before old new (JournalHeld kept finished) cause = cause.0
open_cause told job t j disk before old new NoJournal cause = cause.0
open_cause told job t j disk before old new (JournalForeign kept given len) cause = cause.0
open_cause told job t j disk before old new (SourceShort at) cause = absurd cause
open_cause told job t j disk before old new Missing cause = absurd cause
open_cause told job t j disk before old new FileFault cause = absurd cause
open_cause told job t j disk before old new (DeviceFault dev) cause = cause.0
open_cause told job t j disk before old new (RangeDiffers range want got) cause = absurd cause
open_cause told job t j disk before old new NoMemory cause = tt

pub open_cleared : (told : Type 0) (job : CopyJob) (t j : List ℕ) (disk : Disk) (old new : Meter) (fault : CopyFault) →
    IsOpenFault told job t j old new fault → NoneIsLeft job disk fault
open_cleared told job t j disk old new (TargetTooSmall has needs) cause = tt
open_cleared told job t j disk old new (JournalHeld kept finished) cause = tt
open_cleared told job t j disk old new NoJournal cause = tt
open_cleared told job t j disk old new (JournalForeign kept given len) cause = tt
open_cleared told job t j disk old new (SourceShort at) cause = tt
open_cleared told job t j disk old new Missing cause = tt
open_cleared told job t j disk old new FileFault cause = tt
open_cleared told job t j disk old new (DeviceFault dev) cause = tt
open_cleared told job t j disk old new (RangeDiffers range want got) cause = absurd cause
open_cleared told job t j disk old new NoMemory cause = tt

pub open_outcome : (told told_files : Type 0) (file : Option (List ℕ)) (job : CopyJob) (t j : List ℕ) (a : Disk) (old new : Meter) (fault : CopyFault) →
    IsOpenFault told job t j old new fault → RunHasOutcome told_files file job a (Err fault)
open_outcome told told_files file job t j a old new (TargetTooSmall has needs) cause s before is each = tt
open_outcome told told_files file job t j a old new (JournalHeld kept finished) cause s before is each = tt
open_outcome told told_files file job t j a old new NoJournal cause s before is each = tt
open_outcome told told_files file job t j a old new (JournalForeign kept given len) cause s before is each = tt
open_outcome told told_files file job t j a old new (SourceShort at) cause s before is each = absurd cause
open_outcome told told_files file job t j a old new Missing cause s before is each = cause
open_outcome told told_files file job t j a old new FileFault cause s before is each = tt
open_outcome told told_files file job t j a old new (DeviceFault dev) cause s before is each = tt
open_outcome told told_files file job t j a old new (RangeDiffers range want got) cause s before is each = absurd cause
open_outcome told told_files file job t j a old new NoMemory cause s before is each = tt

-- ---- the images, where it is opened
module _ (told : Type 0) (file : Option (List ℕ)) (job : CopyJob) (was : Progress) (a b c : Disk) (of_job : IsCopyJob job) where
  pub run_since : OpeningKeepsSince job.id a b → RunKeepsSince told file job b c → RunKeepsSince told file job a c
  run_since opens steps source before is = keeps_then (opens job.map source before of_job.of_map) (steps source before is)

  pub run_narrow : OpeningIsNarrow job.id a b → ((source : Option (List ℕ)) → CameAlong job was source (start_of a) b) →
      ((w : ℕ) → IsWindowFor job (a.reads Journal) w → window_in was ≡ w) → StepsStayNear told file job was b c → RunIsNarrow told file job a c
  run_narrow opens along same steps s w is its settled =
      let first : Runs a b (Narrow job.id job.map s (start_of a) w) = opens job.map s w settled in
      let near : Runs b c (IsNear job.id job.map s (start_of a) (window_in was)) = steps s (start_of a) is (along (Some s)) in
      let next : Runs b c (Narrow job.id job.map s (start_of a) (window_in was)) = runs_so near (λ t j each. each.narrow) in
      runs_then first (subst (λ (n : ℕ). Runs b c (Narrow job.id job.map s (start_of a) n)) (same w its) next)

  pub run_keeps : OpeningKeepsMarks job.id a b → ((source : Option (List ℕ)) → CameAlong job was source (start_of a) b) →
      StepsStayNear told file job was b c → RunKeepsMarks told file job a c
  run_keeps opens along steps s is target journal =
      let first : Runs a b (narrow.Keeps job.id job.map s (start_of a)) = opens job.map s journal in
      let near : Runs b c (IsNear job.id job.map s (start_of a) (window_in was)) = steps s (start_of a) is (along (Some s)) in
      runs_then first (runs_so near (λ t j each. each.keeps))

  pub run_own : a.leaves Target (a.reads Target) → opening.KeepsOwn job.id a b → KeepsOwn job.id b c → KeepsOwn job.id a c
  run_own reads opens steps each =
      let first = opens (λ j leaves. each (a.reads Target) j (reads, leaves)) in
      runs_then first (steps first.now)

  pub run_outcome : (answer : Result Tally CopyFault) → OpeningKeepsSince job.id a b → ((source : Option (List ℕ)) → CameAlong job was source (start_of a) b) →
      StepsHaveOutcome told file job was b answer → RunHasOutcome told file job a answer
  run_outcome answer opens along steps s before is each =
      steps s before (start_of a) is (opens job.map (Some s) before of_job.of_map each).now (along (Some s))

-- the window is that of the run
pub window_same : (job : CopyJob) (was : Progress) (a b : Disk) → BeginsIn job was → Fits job was b → (job.mode ≡ Again → Looked a b) →
    (w : ℕ) → IsWindowFor job (a.reads Journal) w → window_in was ≡ w
window_same job (Ok c) a b begins fits again w its = by_mode job.mode (c.window ≡ w)
    (λ fresh. begins.window fresh ∙ sym (its.fresh fresh))
    (λ mode.
    let same : b.reads Journal ≡ a.reads Journal = ap (λ (f : Dev → List ℕ). f Journal) (again mode).reads in
    let held : IsHeld (a.reads Journal) = subst IsHeld same fits.opened.held in
    fits.marks.window ∙ ap window_of same ∙ sym (its.held mode held))
window_same job (Err fault) a b begins fits again w its = absurd begins

-- ---- what the answer tells of the start
pub was_opened : (job : CopyJob) (was : Progress) (a b : Disk) → BeginsIn job was → Fits job was b → (job.mode ≡ Again → Looked a b) →
    job.map.size ≤ length (a.reads Target) → (job.mode ≡ Fresh → ¬ IsHeld (a.reads Journal)) → WasOpened job (a.reads Target) (a.reads Journal)
was_opened job (Ok c) a b begins fits again room fresh = record {
  room = room;
  fresh = fresh;
  again = λ mode. subst (λ (j : List ℕ). IsOpenedFor job.id j) (ap (λ (f : Dev → List ℕ). f Journal) (again mode).reads) fits.opened;
}
was_opened job (Err fault) a b begins fits again room fresh = absurd begins

module _ (told : Type 0) (job : CopyJob) (disk : Disk) (before now : Counts) (mid new : Meter) where
  pub run_opens : (t j : List ℕ) (answer : Result Tally CopyFault) → WasOpened job t j → IfErr answer (IsLastFault told job disk before now mid new) → OpensFor job t j answer
  run_opens t j (Ok tally) was cause = was
  run_opens t j (Err (TargetTooSmall has needs)) was cause = absurd cause
  run_opens t j (Err (JournalHeld kept finished)) was cause = absurd cause
  run_opens t j (Err NoJournal) was cause = absurd cause
  run_opens t j (Err (JournalForeign kept given len)) was cause = absurd cause
  run_opens t j (Err (SourceShort at)) was cause = was
  run_opens t j (Err Missing) was cause = was
  run_opens t j (Err FileFault) was cause = was
  run_opens t j (Err (DeviceFault dev)) was cause = tt
  run_opens t j (Err (RangeDiffers range want got)) was cause = was
  run_opens t j (Err NoMemory) was cause = absurd cause

  run_fault : (n : ℕ) (old : Meter) (fault : CopyFault) → Costs n old mid → IsLastFault told job disk before now mid new fault → IsRunFault told job disk before now old new fault
  run_fault n old (TargetTooSmall has needs) costs cause = absurd cause
  run_fault n old (JournalHeld kept finished) costs cause = absurd cause
  run_fault n old NoJournal costs cause = absurd cause
  run_fault n old (JournalForeign kept given len) costs cause = absurd cause
  run_fault n old (SourceShort at) costs cause = cause
  run_fault n old Missing costs cause = cause
  run_fault n old FileFault costs cause = cause
  run_fault n old (DeviceFault dev) costs cause = failed_more dev n old mid new costs cause
  run_fault n old (RangeDiffers range want got) costs cause = cause
  run_fault n old NoMemory costs cause = absurd cause

  pub run_cause : (n : ℕ) (old : Meter) (answer : Result Tally CopyFault) → Costs n old mid → IfErr answer (IsLastFault told job disk before now mid new) →
      IfErr answer (IsRunFault told job disk before now old new)
  run_cause n old (Ok tally) costs cause = tt
  run_cause n old (Err fault) costs cause = run_fault n old fault costs cause

  written_fault : (fault : CopyFault) → IsLastFault told job disk before now mid new fault → IsUnwritten fault → ⊥
  written_fault (TargetTooSmall has needs) cause is = cause
  written_fault (JournalHeld kept finished) cause is = cause
  written_fault NoJournal cause is = cause
  written_fault (JournalForeign kept given len) cause is = cause
  written_fault (SourceShort at) cause is = is
  written_fault Missing cause is = is
  written_fault FileFault cause is = is
  written_fault (DeviceFault dev) cause is = is
  written_fault (RangeDiffers range want got) cause is = is
  written_fault NoMemory cause is = cause

  pub run_unwritten : (a c : Disk) (answer : Result Tally CopyFault) → IfErr answer (IsLastFault told job disk before now mid new) →
      IfErr answer (λ fault. IsUnwritten fault → Looked a c)
  run_unwritten a c (Ok tally) cause = tt
  run_unwritten a c (Err fault) cause = λ is. absurd (written_fault fault cause is)

-- ---- the numbers
pub run_tally : (job : CopyJob) (was : Progress) (a b : Disk) (answer : Result Tally CopyFault) → OpenedHaveNone → BeginsIn job was → IsSound job was → Fits job was b →
    (job.mode ≡ Again → Looked a b) → (job.mode ≡ Fresh → ¬ IsHeld (a.reads Journal)) → ((source : Option (List ℕ)) → CameAlong job was source (start_of a) b) →
    StepsAreTallied job was b answer → RunIsTallied job a answer
run_tally job was a b (Err fault) law begins sound fits again fresh along steps = tt
run_tally job (Err kept) a b (Ok tally) law begins sound fits again fresh along steps = absurd begins
run_tally job (Ok c) a b (Ok tally) law begins sound fits again fresh along steps =
    let same : ((start_of a).journal ≡ b.reads Journal) ⊎ (¬ IsHeld (start_of a).journal) =
    by_mode job.mode (((start_of a).journal ≡ b.reads Journal) ⊎ (¬ IsHeld (start_of a).journal))
    (λ mode. inr (fresh mode)) (λ mode. inl (sym (ap (λ (f : Dev → List ℕ). f Journal) (again mode).reads))) in
    steps (start_of a) (along None)
    (law job (start_of a) c (b.reads Target) (b.reads Journal) (λ source. stands_at job source (start_of a) c b sound fits (along source)) begins.first same)

pub run_work : (job : CopyJob) → UnitsAreMapped → IsCopyJob job → 4096 + 4 * (80 + job.id.units + job.id.ranges) + most_steps job ≤ most_work job
run_work job law is = omega (arith, law job.map job.id.unit is.of_map.map is.of_map.unit)
