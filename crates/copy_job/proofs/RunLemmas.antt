-- A copy by the run of the job that is said, and one that isn't run.
use Rattle.std.proofs.Common.{◌≡◌, ℕ, [], Result, Ok, Err, subst, sym, refl, arith}
use Rattle.std.specs.Prelude.{◌≤◌, IfErr, IfOk}
use Rattle.std.proofs.lemmas.List.Elements.{All-nil}
use Rattle.base_fields.specs.Numbers.{IsPowerBetween}
use Rattle.bench.specs.Disk.{Disk}
use Rattle.bench.specs.Meter.{Costs, Meter}
use Rattle.bench.specs.declared.Dev.{Dev}
use Rattle.bench.specs.declared.Dev.TheVariants.{Target, Journal}
use Rattle.block_map.specs.Maps.{IsMap}
use Rattle.block_map.specs.Units.{cut_of}
use Rattle.block_map.specs.declared.maps.BlockMap.{BlockMap}
use Rattle.copier.specs.declared.faults.CopyFault.{CopyFault}
use Rattle.copier.specs.declared.faults.CopyFault.TheVariants as run
use Rattle.copier_course.specs.Courses.{IsCopyJob}
use Rattle.copier_course.specs.declared.jobs.CopyJob.{CopyJob}
use Rattle.copy_journal.specs.Faults.{HasFailed}
use Rattle.copy_run.proofs.AnswerLemmas.{rose_more}
use Rattle.copy_run.specs.Faults.{IsRunFault}
use Rattle.copy_run.specs.Runs.{RunIsNarrow, RunKeepsMarks, RunKeepsSince, TellsFile}
use Rattle.copy_run.specs.declared.running.Tally.{Tally}
use Rattle.copy_stages.specs.Stages.{KeepsOwn}
use Rattle.outside.specs.Counts.{Counts, NoneFell}
use Rattle.outside.specs.Files.{Tree}
use Rattle.copy_job.proofs.LookLemmas.{looked_none, marks_looked, narrow_looked, own_looked, since_looked}
use Rattle.copy_job.specs.Copies.{OfRun}
use Rattle.copy_job.specs.Devices.{IsBounded, most_work}
use Rattle.copy_job.specs.Stages.{IsEarly}
use Rattle.copy_job.specs.declared.faults.CopyJobFault.{CopyJobFault}
use Rattle.copy_job.specs.declared.faults.CopyJobFault.TheVariants.{Compressed, Missing, FileFault, Map, TooManyUnits, DeviceFault, Copy, NoMemory}
use Rattle.copy_job.specs.declared.requests.CopyRequest.{CopyRequest}

-- ---- where nothing is asked of the devices
pub early_of_run : (P : Result Tally CopyFault → Type 0) (fault : CopyJobFault) → IsEarly fault → OfRun P (Err fault)
early_of_run P Compressed early = tt
early_of_run P Missing early = tt
early_of_run P FileFault early = tt
early_of_run P (Map fault) early = tt
early_of_run P (TooManyUnits count limit) early = tt
early_of_run P (DeviceFault dev) early = tt
early_of_run P (Copy fault) early = absurd early
early_of_run P NoMemory early = tt

-- so of the job that is said, whatever it is
pub early_of_said : (P : CopyJob → Result Tally CopyFault → Type 0) (said : Result CopyJob CopyJobFault)
    (fault : CopyJobFault) → IsEarly fault → IfOk said (λ job. OfRun (P job) (Err fault))
early_of_said P (Ok job) fault early = early_of_run (P job) fault early
early_of_said P (Err refusal) fault early = tt

pub early_since : (told : Type 0) (file : Tree) (said : Result CopyJob CopyJobFault) (a : Disk) →
    IfOk said (λ job. RunKeepsSince told (file job.source) job a a)
early_since told file (Ok job) a = since_looked told (file job.source) job (looked_none a)
early_since told file (Err refusal) a = tt

pub early_narrow : (told : Type 0) (file : Tree) (said : Result CopyJob CopyJobFault) (a : Disk) →
    IfOk said (λ job. RunIsNarrow told (file job.source) job a a)
early_narrow told file (Ok job) a = narrow_looked told (file job.source) job (looked_none a)
early_narrow told file (Err refusal) a = tt

pub early_marks : (told : Type 0) (file : Tree) (said : Result CopyJob CopyJobFault) (a : Disk) →
    IfOk said (λ job. RunKeepsMarks told (file job.source) job a a)
early_marks told file (Ok job) a = marks_looked told (file job.source) job (looked_none a)
early_marks told file (Err refusal) a = tt

pub early_own : (said : Result CopyJob CopyJobFault) (a : Disk) → IfOk said (λ job. KeepsOwn job.id a a)
early_own (Ok job) a = own_looked job (looked_none a)
early_own (Err refusal) a = tt

-- ---- where something is
-- what a run keeps, as that of the job that is said
job_has : (P : CopyJob → Type 0) (said : Result CopyJob CopyJobFault) (job : CopyJob) → said ≡ Ok job → P job →
    IfOk said P
job_has P said job is has = subst (λ (s : Result CopyJob CopyJobFault). IfOk s P) (sym is) has

pub said_since : (told : Type 0) (file after : Tree) (said : Result CopyJob CopyJobFault) (job : CopyJob) (a b : Disk) →
    after ≡ file → said ≡ Ok job → RunKeepsSince told (after job.source) job a b →
    IfOk said (λ job. RunKeepsSince told (file job.source) job a b)
said_since told file after said job a b same is run =
    job_has (λ (job : CopyJob). RunKeepsSince told (file job.source) job a b) said job is
    (subst (λ (f : Tree). RunKeepsSince told (f job.source) job a b) same run)

pub said_narrow : (told : Type 0) (file after : Tree) (said : Result CopyJob CopyJobFault) (job : CopyJob) (a b : Disk) →
    after ≡ file → said ≡ Ok job → RunIsNarrow told (after job.source) job a b →
    IfOk said (λ job. RunIsNarrow told (file job.source) job a b)
said_narrow told file after said job a b same is run =
    job_has (λ (job : CopyJob). RunIsNarrow told (file job.source) job a b) said job is
    (subst (λ (f : Tree). RunIsNarrow told (f job.source) job a b) same run)

pub said_marks : (told : Type 0) (file after : Tree) (said : Result CopyJob CopyJobFault) (job : CopyJob) (a b : Disk) →
    after ≡ file → said ≡ Ok job → RunKeepsMarks told (after job.source) job a b →
    IfOk said (λ job. RunKeepsMarks told (file job.source) job a b)
said_marks told file after said job a b same is run =
    job_has (λ (job : CopyJob). RunKeepsMarks told (file job.source) job a b) said job is
    (subst (λ (f : Tree). RunKeepsMarks told (f job.source) job a b) same run)

pub said_own : (said : Result CopyJob CopyJobFault) (job : CopyJob) (a b : Disk) → said ≡ Ok job → KeepsOwn job.id a b →
    IfOk said (λ job. KeepsOwn job.id a b)
said_own said job a b is run = job_has (λ (job : CopyJob). KeepsOwn job.id a b) said job is run

pub said_read : (file after : Tree) (said : Result CopyJob CopyJobFault) (job : CopyJob)
    (answer : Result Tally CopyJobFault) → after ≡ file → said ≡ Ok job → OfRun (TellsFile (after job.source)) answer →
    IfOk said (λ job. OfRun (TellsFile (file job.source)) answer)
said_read file after said job answer same is read =
    job_has (λ (job : CopyJob). OfRun (TellsFile (file job.source)) answer) said job is
    (subst (λ (f : Tree). OfRun (TellsFile (f job.source)) answer) same read)

-- ---- why a run isn't done
failed_before : (dev : Dev) (a b c : Meter) → a.faults.target ≤ b.faults.target → a.faults.journal ≤ b.faults.journal →
    HasFailed dev b c → HasFailed dev a c
failed_before Target a b c target journal failed = rose_more a.faults.target b.faults.target c.faults.target target failed
failed_before Journal a b c target journal failed = rose_more a.faults.journal b.faults.journal c.faults.journal journal failed

-- by the counts of a whole that the run is the end of
pub run_caused : (told : Type 0) (job : CopyJob) (disk : Disk) (before mid now : Counts) (a b c : Meter) →
    NoneFell before mid → a.faults.target ≤ b.faults.target → a.faults.journal ≤ b.faults.journal → (fault : CopyFault) →
    IsRunFault told job disk mid now b c fault → IsRunFault told job disk before now a c fault
run_caused told job disk before mid now a b c fell target journal (run.TargetTooSmall has needs) cause = cause
run_caused told job disk before mid now a b c fell target journal (run.JournalHeld kept finished) cause = cause
run_caused told job disk before mid now a b c fell target journal run.NoJournal cause = cause
run_caused told job disk before mid now a b c fell target journal (run.JournalForeign kept given len) cause = cause
run_caused told job disk before mid now a b c fell target journal (run.SourceShort at) cause =
    rose_more before.ends mid.ends now.ends fell.ends cause
run_caused told job disk before mid now a b c fell target journal run.Missing cause =
    rose_more before.absences mid.absences now.absences fell.absences cause
run_caused told job disk before mid now a b c fell target journal run.FileFault cause =
    rose_more before.faults mid.faults now.faults fell.faults cause
run_caused told job disk before mid now a b c fell target journal (run.DeviceFault dev) cause =
    failed_before dev a b c target journal cause
run_caused told job disk before mid now a b c fell target journal (run.RangeDiffers range want got) cause = cause
run_caused told job disk before mid now a b c fell target journal run.NoMemory cause = cause

by_answer : (told : Type 0) (job : CopyJob) (disk : Disk) (before mid now : Counts) (a b : Meter) → NoneFell before mid →
    (answer : Result Tally CopyJobFault) → OfRun (λ r. IfErr r (IsRunFault told job disk mid now a b)) answer →
    OfRun (λ r. IfErr r (IsRunFault told job disk before now a b)) answer
by_answer told job disk before mid now a b fell (Ok tally) cause = tt
by_answer told job disk before mid now a b fell (Err Compressed) cause = tt
by_answer told job disk before mid now a b fell (Err Missing) cause = tt
by_answer told job disk before mid now a b fell (Err FileFault) cause = tt
by_answer told job disk before mid now a b fell (Err (Map fault)) cause = tt
by_answer told job disk before mid now a b fell (Err (TooManyUnits count limit)) cause = tt
by_answer told job disk before mid now a b fell (Err (DeviceFault dev)) cause = tt
by_answer told job disk before mid now a b fell (Err (Copy fault)) cause =
    run_caused told job disk before mid now a a b fell (omega arith) (omega arith) fault cause
by_answer told job disk before mid now a b fell (Err NoMemory) cause = tt

pub said_caused : (told : Type 0) (disk : Disk) (before mid now : Counts) (a b : Meter)
    (said : Result CopyJob CopyJobFault) (job : CopyJob) (answer : Result Tally CopyJobFault) → NoneFell before mid →
    said ≡ Ok job → OfRun (λ r. IfErr r (IsRunFault told job disk mid now a b)) answer →
    IfOk said (λ job. OfRun (λ r. IfErr r (IsRunFault told job disk before now a b)) answer)
said_caused told disk before mid now a b said job answer fell is cause =
    job_has (λ (job : CopyJob). OfRun (λ r. IfErr r (IsRunFault told job disk before now a b)) answer) said job is
    (by_answer told job disk before mid now a b fell answer cause)

-- ---- work
pub no_cost : (n : ℕ) (a : Meter) → Costs n a a
no_cost n a = record {
  target = omega arith;
  journal = omega arith;
  no_less = omega arith;
  work = omega arith;
  room = refl;
  sure = refl;
}

-- the map of an image of no byte, and its job
abbrev bare : BlockMap
bare = record { size = 0; block = 512; ranges = [] }

bare_is_map : IsMap bare
unfolding lib.Count.ones
bare_is_map = record {
  size = omega arith;
  block = record { power = refl; not_below = omega arith; not_above = omega arith };
  few = omega arith;
  filled = All-nil _;
  ascend = λ i j d before below. absurd (omega arith);
  below = All-nil _;
}

abbrev bare_job : CopyRequest → CopyJob
bare_job request = record {
  source = [];
  map = bare;
  units = cut_of bare request.unit;
  id = record { digest = []; size = 0; block = 512; unit = request.unit; units = 0; ranges = 0 };
  mode = request.mode;
  window = request.window;
}

bare_is_job : (request : CopyRequest) → IsPowerBetween 65536 4194304 request.unit → IsCopyJob (bare_job request)
bare_is_job request unit = record {
  of_map = record { map = bare_is_map; unit = unit; size = refl; block = refl; units = refl; ranges = refl };
  cut = refl;
  limits = record { units = omega arith; ranges = omega arith };
}

pub nothing_done : (request : CopyRequest) → IsPowerBetween 65536 4194304 request.unit → (a : Meter) → IsBounded request a a
nothing_done request unit a = record {
  job = bare_job request;
  holds = bare_is_job request unit;
  costs = no_cost (most_work request (bare_job request)) a;
}
