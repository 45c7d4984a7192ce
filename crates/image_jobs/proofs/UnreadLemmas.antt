-- What holds of any words where memory is refused for them.
use lib.Count.{ones}
use Rattle.std.proofs.Common.{◌≡◌, ℕ, Option, Some, None, Result, Ok, Err, refl, arith, inl, inr, subst, sym}
use Rattle.std.specs.Prelude.{◌⊎◌, IfErr, IfOk, length}
use Rattle.outside.specs.Counts.{Counts}
use Rattle.outside.specs.Files.{Tree}
use Rattle.answer_lines.specs.declared.answer.Answer.TheVariants.{NoMemory}
use Rattle.bench.specs.Meter.{Meter}
use Rattle.bench.specs.declared.Dev.TheVariants as dev
use Rattle.job_words.specs.declared.jobs.WordFault.{WordFault}
use Rattle.list_job.specs.declared.fault.ListFault.TheVariants as list
use Rattle.bench.proofs.DiskLemmas.{looked_keeps}
use Rattle.bench.specs.Disk.{Disk, Looked, StillLeaves}
use Rattle.bench.specs.declared.Dev.{Dev}
use Rattle.base_fields.specs.Numbers.{IsPowerBetween}
use Rattle.copier.specs.declared.faults.CopyFault.{CopyFault}
use Rattle.copier_course.specs.declared.jobs.CopyJob.{CopyJob}
use Rattle.copy_job.proofs.LookLemmas.{marks_looked, narrow_looked, own_looked, since_looked}
use Rattle.copy_job.proofs.RunLemmas.{no_cost, nothing_done}
use Rattle.copy_job.specs.Devices.{IsBounded as IsCopyBounded}
use Rattle.copy_job.specs.Said.{copying_said}
use Rattle.copy_job.specs.declared.faults.CopyJobFault.{CopyJobFault}
use Rattle.copy_job.specs.declared.faults.CopyJobFault.TheVariants as copy
use Rattle.copy_job.specs.declared.requests.CopyRequest.{CopyRequest}
use Rattle.copy_run.specs.Runs.{RunIsNarrow, RunKeepsMarks, RunKeepsSince}
use Rattle.copy_run.specs.declared.running.Tally.{Tally}
use Rattle.copy_stages.specs.Stages.{KeepsOwn}
use Rattle.device_commands.specs.CopyArm.{IsUnwritten, Tells}
use Rattle.journal_format.specs.Journals.{IsHeld}
use Rattle.answer_lines.specs.declared.answer.Answer.{Answer}
use Rattle.verify_job.proofs.Bounds as device
use Rattle.verify_job.specs.declared.faults.VerifyJobFault.TheVariants as verify
use Rattle.image_jobs.specs.OnDevices.{HasBill, HasBound, HasForgotten, IsAsBefore, KeepsItsJournal, KeepsMarks, KeepsSince, LeavesDevices}
use Rattle.image_jobs.specs.OnDevices.{LeavesUnsaid, StaysNarrow, WritesNothing, of_copy}
use Rattle.image_jobs.specs.Asked.{AreCopySizes, IsSound}
use Rattle.image_jobs.specs.Run.{HasCause}
use Rattle.image_jobs.specs.declared.request.Command.{Command}
use Rattle.image_jobs.specs.declared.request.Command.TheVariants.{Build, Map, Copy, Forget, Verify, List as Listed}

-- want of memory needs no count
pub memory_caused : (command : Option Command) (before now : Counts) (old new : Meter) (lines_before lines_now : ℕ)
    → HasCause command before now old new lines_before lines_now NoMemory
memory_caused None before now old new lines_before lines_now = tt
memory_caused (Some (Build request)) before now old new lines_before lines_now = tt
memory_caused (Some (Map mapping)) before now old new lines_before lines_now = inl tt
memory_caused (Some (Copy request)) before now old new lines_before lines_now =
    record { fault = copy.NoMemory; shown = tt; is = inl refl }
memory_caused (Some (Forget journal)) before now old new lines_before lines_now = inl refl
memory_caused (Some (Verify map target)) before now old new lines_before lines_now =
    record { fault = verify.NoMemory; shown = tt; is = inl refl }
memory_caused (Some (Listed image)) before now old new lines_before lines_now =
    record { fault = list.NoMemory; shown = tt; is = inl refl }

-- ---- devices of which nothing was asked

some_unit : IsPowerBetween 65536 4194304 65536
unfolding ones
some_unit = record { power = refl; not_below = omega arith; not_above = omega arith }

-- the bound is one of the words alone
copy_bounded : (request : CopyRequest) (meter : Meter) → IsCopyBounded request meter meter
copy_bounded request meter =
    let bound = nothing_done (record request { unit = 65536 }) some_unit meter in
    record { job = bound.job; holds = bound.holds; costs = bound.costs }

pub nothing_bounded : (command : Option Command) (meter : Meter) → HasBound command meter meter
nothing_bounded None meter = device.no_cost dev.Target 0 meter
nothing_bounded (Some (Build request)) meter = device.no_cost dev.Target 0 meter
nothing_bounded (Some (Map mapping)) meter = device.no_cost dev.Target 0 meter
nothing_bounded (Some (Copy request)) meter = copy_bounded request meter
nothing_bounded (Some (Forget journal)) meter = device.no_cost dev.Journal _ meter
nothing_bounded (Some (Verify map target)) meter = device.nothing_done (length target) meter
nothing_bounded (Some (Listed image)) meter = device.no_cost dev.Target 0 meter

pub nothing_billed : (command : Option Command) (file : Tree) (meter : Meter) → HasBill command file meter meter
nothing_billed None file meter = device.no_cost dev.Target 0 meter
nothing_billed (Some (Build request)) file meter = device.no_cost dev.Target 0 meter
nothing_billed (Some (Map mapping)) file meter = device.no_cost dev.Target 0 meter
nothing_billed (Some (Copy request)) file meter = no_cost _ meter
nothing_billed (Some (Forget journal)) file meter = device.no_cost dev.Journal _ meter
nothing_billed (Some (Verify map target)) file meter = device.no_cost dev.Target _ meter
nothing_billed (Some (Listed image)) file meter = device.no_cost dev.Target 0 meter

each_job : (said : Result CopyJob CopyJobFault) (P : CopyJob → Type 0) → ((job : CopyJob) → P job) → IfOk said P
each_job (Ok job) P each = each job
each_job (Err refusal) P each = tt

-- what is said of a copy's devices holds of those to which nothing was written
pub of_none : (command : Option Command) (file : Tree) (P : CopyJob → Type 0) → ((job : CopyJob) → P job) → of_copy command file P
of_none None file P each = tt
of_none (Some (Build request)) file P each = tt
of_none (Some (Map mapping)) file P each = tt
of_none (Some (Copy request)) file P each = each_job (copying_said file request) P each
of_none (Some (Forget journal)) file P each = tt
of_none (Some (Verify map target)) file P each = tt
of_none (Some (Listed image)) file P each = tt

pub none_since : (command : Option Command) (told : Type 0) (file : Tree) {a b : Disk} → Looked a b → KeepsSince command told file a b
none_since None told file {a} {b} looked = tt
none_since (Some (Build request)) told file {a} {b} looked = tt
none_since (Some (Map mapping)) told file {a} {b} looked = tt
none_since (Some (Copy request)) told file {a} {b} looked =
    each_job (copying_said file request) (λ job. RunKeepsSince told (file job.source) job a b)
    (λ job. since_looked told (file job.source) job looked)
none_since (Some (Forget journal)) told file {a} {b} looked = λ id m source before. looked_keeps looked
none_since (Some (Verify map target)) told file {a} {b} looked = tt
none_since (Some (Listed image)) told file {a} {b} looked = tt

pub none_narrow : (command : Option Command) (told : Type 0) (file : Tree) {a b : Disk} → Looked a b → StaysNarrow command told file a b
none_narrow command told file {a} {b} looked =
    of_none command file (λ job. RunIsNarrow told (file job.source) job a b) (λ job. narrow_looked told (file job.source) job looked)

pub none_marks : (command : Option Command) (told : Type 0) (file : Tree) {a b : Disk} → Looked a b → KeepsMarks command told file a b
none_marks command told file {a} {b} looked =
    of_none command file (λ job. RunKeepsMarks told (file job.source) job a b) (λ job. marks_looked told (file job.source) job looked)

pub none_own : (command : Option Command) (file : Tree) {a b : Disk} → Looked a b → KeepsItsJournal command file a b
none_own command file {a} {b} looked = of_none command file (λ job. KeepsOwn job.id a b) (λ job. own_looked job looked)

-- want of memory tells nothing of a run
pub none_told : (command : Option Command) (file : Tree) (P : CopyJob → Result Tally CopyFault → Type 0)
    → of_copy command file (λ job. Tells (P job) NoMemory)
none_told command file P = of_none command file (λ job. Tells (P job) NoMemory) (λ job. tt)

pub none_forgotten : (command : Option Command) (a b : Disk) → HasForgotten command a b NoMemory
none_forgotten None a b = tt
none_forgotten (Some (Build request)) a b = tt
none_forgotten (Some (Map mapping)) a b = tt
none_forgotten (Some (Copy request)) a b = tt
none_forgotten (Some (Forget journal)) a b = tt
none_forgotten (Some (Verify map target)) a b = tt
none_forgotten (Some (Listed image)) a b = tt

pub none_written : (command : Option Command) {a b : Disk} → Looked a b → WritesNothing command a b NoMemory
none_written None {a} {b} looked = tt
none_written (Some (Build request)) {a} {b} looked = tt
none_written (Some (Map mapping)) {a} {b} looked = tt
none_written (Some (Copy request)) {a} {b} looked = λ why. looked
none_written (Some (Forget journal)) {a} {b} looked = λ why. looked
none_written (Some (Verify map target)) {a} {b} looked = tt
none_written (Some (Listed image)) {a} {b} looked = tt

pub none_left : (command : Option Command) {a b : Disk} → IsAsBefore a b → LeavesDevices command a b
none_left None {a} {b} same = same
none_left (Some (Build request)) {a} {b} same = same
none_left (Some (Map mapping)) {a} {b} same = same
none_left (Some (Copy request)) {a} {b} same = tt
none_left (Some (Forget journal)) {a} {b} same = tt
none_left (Some (Verify map target)) {a} {b} same = same
none_left (Some (Listed image)) {a} {b} same = same

pub none_unsaid : (command : Option Command) (file : Tree) {a b : Disk} → IsAsBefore a b → LeavesUnsaid command file a b
none_unsaid None file {a} {b} same = tt
none_unsaid (Some (Build request)) file {a} {b} same = tt
none_unsaid (Some (Map mapping)) file {a} {b} same = tt
none_unsaid (Some (Copy request)) file {a} {b} same = at (copying_said file request)
  where
    at : (said : Result CopyJob CopyJobFault) → IfErr said (λ refusal. IsAsBefore a b)
    at (Ok job) = tt
    at (Err refusal) = same
none_unsaid (Some (Forget journal)) file {a} {b} same = tt
none_unsaid (Some (Verify map target)) file {a} {b} same = tt
none_unsaid (Some (Listed image)) file {a} {b} same = tt

-- a copy of which the files say no job
pub unsaid_stays : (said : Result CopyJob CopyJobFault) (a b : Disk) → IfErr said (λ refusal. Looked a b)
    → IfErr said (λ refusal. (each : Dev) → StillLeaves each a b) → IfErr said (λ refusal. IsAsBefore a b)
unsaid_stays (Ok job) a b looked stays = tt
unsaid_stays (Err refusal) a b looked stays = record { looked = looked; stays = stays }

-- the sizes of a copy that words ask for
pub copied_sound : (r : Result Command WordFault) (request : CopyRequest) → IfOk r (λ command. command ≡ Copy request)
    → AreCopySizes request → IfOk r IsSound
copied_sound (Ok command) request is sizes = subst IsSound (sym is) sizes
copied_sound (Err fault) request is sizes = tt

-- a forgetting that is answered by no refusal wrote nothing where the journal wasn't held
pub forgotten_writes : (a : Answer) (old new : Disk) → ¬ (IsUnwritten a) → (¬ (IsHeld (old.reads dev.Journal)) → Looked old new)
    → (IsUnwritten a ⊎ ¬ IsHeld (old.reads dev.Journal)) → Looked old new
forgotten_writes a old new answered unheld (inl unwritten) = absurd (answered unwritten)
forgotten_writes a old new answered unheld (inr free) = unheld free
