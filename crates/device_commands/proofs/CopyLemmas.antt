-- What the answer of `copy` says, by the fault of the work.
use Rattle.std.proofs.Common.{◌≡◌, ◌∙◌, ℕ, Bool, true, false, List, Option, Some, None, Result, Ok, Err, refl, ap, subst, sym, inl, inr}
use Rattle.std.specs.Prelude.{IfErr, IfOk, IsOk, not}
use Rattle.base_fields.specs.Results.{◌>>=◌, or_else, refused_by, when}
use Rattle.outside.specs.Counts.{Counts, Rose}
use Rattle.outside.specs.Files.{Tree}
use Rattle.outside.specs.declared.printer.PrintErr.{PrintErr}
use Rattle.answer_lines.specs.Kind.{Kind, Finished, LineFailed, Counted, Refused, kind_of}
use Rattle.answer_lines.specs.declared.answer.Answer.{Answer}
use Rattle.answer_lines.specs.declared.answer.Answer.TheVariants as answer
use Rattle.answer_lines.specs.declared.answer.Report.{Report}
use Rattle.answer_lines.specs.declared.answer.Report.TheVariants as report
use Rattle.bench.specs.Meter.{Meter}
use Rattle.bench.specs.declared.Dev.TheVariants as dev
use Rattle.copier.specs.declared.faults.CopyFault.{CopyFault}
use Rattle.copier.specs.declared.faults.CopyFault.TheVariants as run
use Rattle.copier_course.specs.declared.jobs.CopyJob.{CopyJob}
use Rattle.copy_job.specs.Copies as copies
use Rattle.copy_job.specs.Copies.{Answers, OfRun}
use Rattle.copy_job.specs.Faults.{IsShown}
use Rattle.copy_job.specs.Said.{copying_said, is_compressed, job_in}
use Rattle.copy_job.specs.declared.faults.CopyJobFault.{CopyJobFault}
use Rattle.copy_job.specs.declared.faults.CopyJobFault.TheVariants as fault
use Rattle.copy_job.specs.declared.requests.CopyRequest.{CopyRequest}
use Rattle.copy_run.specs.Runs.{TellsFile}
use Rattle.copy_run.specs.declared.running.Tally.{Tally}
use Rattle.map_source.specs.Said.{map_said}
use Rattle.map_source.specs.declared.faults.SourceFault.{SourceFault}
use Rattle.map_source.specs.declared.faults.SourceFault.TheVariants as source
use Rattle.map_source.specs.declared.sources.MapSource.{MapSource}
use Rattle.job_answers.specs.Printed.{Reports, reported_of}
use Rattle.device_commands.specs.CopyArm.{IsUnwritten, Tells, copy_answer, copy_expects, copy_says, copy_wanted, run_answer}
use Rattle.device_commands.specs.VerifyArm.{source_answer}

-- ---- the run that an answer tells

no_job : {A E : Type 0} (x : A) (e : E) → Ok x ≡ Err e → ⊥
no_job x e is = cc

-- where there is a job the map was read: no refusal of it is answered
map_tells : (job : CopyJob) (P : Result Tally CopyFault → Type 0) (name : List ℕ) (f : SourceFault)
    → Answers (Ok job) (Err (fault.Map f)) → Tells P (source_answer name f)
map_tells job P name source.Missing h = tt
map_tells job P name (source.SourceShort at) h = absurd (no_job _ _ h)
map_tells job P name source.FileFault h = tt
map_tells job P name (source.BadMap place) h = tt
map_tells job P name (source.OtherVersion place) h = tt
map_tells job P name (source.OtherDigest place) h = tt
map_tells job P name (source.BadCounts want got) h = tt
map_tells job P name (source.SumDiffers want got) h = tt
map_tells job P name source.NoMemory h = tt

run_tells : (P : Result Tally CopyFault → Type 0) (name : List ℕ) (f : CopyFault) → P (Err f) → Tells P (run_answer name f)
run_tells P name (run.TargetTooSmall has needs) h = h
run_tells P name (run.JournalHeld kept finished) h = h
run_tells P name run.NoJournal h = h
run_tells P name (run.JournalForeign kept given len) h = h
run_tells P name (run.SourceShort at) h = h
run_tells P name run.Missing h = tt
run_tells P name run.FileFault h = tt
run_tells P name (run.DeviceFault dev) h = tt
run_tells P name (run.RangeDiffers range want got) h = h
run_tells P name run.NoMemory h = tt

fault_tells : (job : CopyJob) (P : Result Tally CopyFault → Type 0) (request : CopyRequest) (f : CopyJobFault)
    → Answers (Ok job) (Err f) → OfRun P (Err f) → Tells P (copy_answer request f)
fault_tells job P request fault.Compressed h of = tt
fault_tells job P request fault.Missing h of = tt
fault_tells job P request fault.FileFault h of = tt
fault_tells job P request (fault.Map f) h of = map_tells job P request.map f h
fault_tells job P request (fault.TooManyUnits count limit) h of = tt
fault_tells job P request (fault.DeviceFault dev) h of = tt
fault_tells job P request (fault.Copy f) h of = run_tells P request.source f of
fault_tells job P request fault.NoMemory h of = tt

pub refused_tells : (said : Result CopyJob CopyJobFault) (P : CopyJob → Result Tally CopyFault → Type 0) (request : CopyRequest)
    (f : CopyJobFault) → Answers said (Err f) → IfOk said (λ job. OfRun (P job) (Err f))
    → IfOk said (λ job. Tells (P job) (copy_answer request f))
refused_tells (Ok job) P request f h of = fault_tells job (P job) request f h of
refused_tells (Err refusal) P request f h of = tt

report_tells : (P : Result Tally CopyFault → Type 0) (tally : Tally) (answered : Result Unit PrintErr) → P (Ok tally)
    → Tells P (reported_of answered (report.Copied tally.units tally.written tally.kept))
report_tells P tally (Ok printed) h = h
report_tells P tally (Err failed) h = (tally, h)

pub done_tells : (said : Result CopyJob CopyJobFault) (P : CopyJob → Result Tally CopyFault → Type 0) (tally : Tally)
    (answered : Result Unit PrintErr) (a : Answer) → a ≡ reported_of answered (report.Copied tally.units tally.written tally.kept)
    → IfOk said (λ job. OfRun (P job) (Ok tally)) → IfOk said (λ job. Tells (P job) a)
done_tells (Ok job) P tally answered a is h = subst (λ (x : Answer). Tells (P job) x) (sym is) (report_tells (P job) tally answered h)
done_tells (Err refusal) P tally answered a is h = tt

-- ---- what is said of the files

-- where there is a job its source is there
there : (file : Tree) (request : CopyRequest) (job : CopyJob) → copying_said file request ≡ Ok job → file job.source ≡ None → ⊥
there file request job is none = at (not (is_compressed request.source)) refl
  where
    rest : Result (List ℕ) CopyJobFault → Result CopyJob CopyJobFault
    rest found = found >>= λ bytes. refused_by fault.Map (map_said (file request.map)) >>= job_in request

    in_when : (b : Bool) (x : CopyJob) (e : CopyJobFault) → when b x e ≡ Ok job → x ≡ job
    in_when true x e h = cc
    in_when false x e h = absurd (wrong h)
      where
        wrong : Err e ≡ Ok job → ⊥
        wrong same = cc

    in_map : (m : Result MapSource CopyJobFault) → (m >>= job_in request) ≡ Ok job → job.source ≡ request.source
    in_map (Ok source) h = ap (λ (x : CopyJob). x.source) (sym (in_when _ _ _ h))
    in_map (Err e) h = absurd (wrong h)
      where
        wrong : Err e ≡ Ok job → ⊥
        wrong same = cc

    by_file : (o : Option (List ℕ)) → file request.source ≡ o → rest (or_else o fault.Missing) ≡ Ok job → ⊥
    by_file None known h = wrong h
      where
        wrong : Err fault.Missing ≡ Ok job → ⊥
        wrong same = cc
    by_file (Some bytes) known h =
        let same : job.source ≡ request.source = in_map (refused_by fault.Map (map_said (file request.map))) h in
        let other : Some bytes ≡ None = sym known ∙ ap file (sym same) ∙ none in
        cc

    at : (b : Bool) → not (is_compressed request.source) ≡ b → ⊥
    at true known =
        let plain : rest (or_else (file request.source) fault.Missing) ≡ Ok job =
        subst (λ (b : Bool). rest (when b request.source fault.Compressed >>= λ name. or_else (file name) fault.Missing) ≡ Ok job) known is in
        by_file (file request.source) refl plain
    at false known =
        let refused : rest (Err fault.Compressed) ≡ Ok job =
        subst (λ (b : Bool). rest (when b request.source fault.Compressed >>= λ name. or_else (file name) fault.Missing) ≡ Ok job) known is in
        cc

-- ---- a refusal

map_says : (said : Result CopyJob CopyJobFault) (request : CopyRequest) (f : SourceFault) → Answers said (Err (fault.Map f))
    → copy_says request.source (refused_by (copy_answer request) said) (source_answer request.map f) (kind_of (source_answer request.map f))
map_says said request source.Missing h = ap (refused_by (copy_answer request)) h
map_says said request (source.SourceShort at) h = inr (ap (refused_by (copy_answer request)) h)
map_says said request source.FileFault h = tt
map_says said request (source.BadMap place) h = ap (refused_by (copy_answer request)) h
map_says said request (source.OtherVersion place) h = ap (refused_by (copy_answer request)) h
map_says said request (source.OtherDigest place) h = ap (refused_by (copy_answer request)) h
map_says said request (source.BadCounts want got) h = ap (refused_by (copy_answer request)) h
map_says said request (source.SumDiffers want got) h = ap (refused_by (copy_answer request)) h
map_says said request source.NoMemory h = tt

is_ok : {A D E : Type 0} (f : D → E) (r : Result A D) → IsOk r → IsOk (refused_by f r)
is_ok f (Ok x) h = refl
is_ok f (Err e) h = cc

run_says : (said : Result CopyJob CopyJobFault) (request : CopyRequest) (f : CopyFault) → IsOk said
    → (f ≡ run.Missing → ⊥)
    → copy_says request.source (refused_by (copy_answer request) said) (run_answer request.source f) (kind_of (run_answer request.source f))
run_says said request (run.TargetTooSmall has needs) h here = is_ok (copy_answer request) said h
run_says said request (run.JournalHeld kept finished) h here = is_ok (copy_answer request) said h
run_says said request run.NoJournal h here = is_ok (copy_answer request) said h
run_says said request (run.JournalForeign kept given len) h here = is_ok (copy_answer request) said h
run_says said request (run.SourceShort at) h here = inl (is_ok (copy_answer request) said h, refl)
run_says said request run.Missing h here = absurd (here refl)
run_says said request run.FileFault h here = tt
run_says said request (run.DeviceFault dev) h here = tt
run_says said request (run.RangeDiffers range want got) h here = is_ok (copy_answer request) said h
run_says said request run.NoMemory h here = tt

refused_says : (said : Result CopyJob CopyJobFault) (request : CopyRequest) (f : CopyJobFault) → Answers said (Err f)
    → (f ≡ fault.Copy run.Missing → ⊥)
    → copy_says request.source (refused_by (copy_answer request) said) (copy_answer request f) (kind_of (copy_answer request f))
refused_says said request fault.Compressed h here = ap (refused_by (copy_answer request)) h
refused_says said request fault.Missing h here = ap (refused_by (copy_answer request)) h
refused_says said request fault.FileFault h here = tt
refused_says said request (fault.Map f) h here = map_says said request f h
refused_says said request (fault.TooManyUnits count limit) h here = ap (refused_by (copy_answer request)) h
refused_says said request (fault.DeviceFault dev) h here = tt
refused_says said request (fault.Copy f) h here = run_says said request f h (λ same. here (ap fault.Copy same))
refused_says said request fault.NoMemory h here = tt

-- over told files the run misses no source
not_missed : (file : Tree) (request : CopyRequest) (said : Result CopyJob CopyJobFault) → copying_said file request ≡ said → (f : CopyJobFault)
    → Answers said (Err f) → IfOk said (λ job. OfRun (TellsFile (file job.source)) (Err f)) → f ≡ fault.Copy run.Missing → ⊥
not_missed file request (Ok job) is f h read same =
    there file request job is (subst (λ (x : CopyJobFault). OfRun (TellsFile (file job.source)) (Err x)) same read)
not_missed file request (Err refusal) is f h read same =
    let missed : Answers (Err refusal) (Err (fault.Copy run.Missing)) = subst (λ (x : CopyJobFault). Answers (Err refusal) (Err x)) same h in
    cc

pub copy_refused : (file : Tree) (request : CopyRequest) (f : CopyJobFault) → Answers (copying_said file request) (Err f)
    → IfOk (copying_said file request) (λ job. OfRun (TellsFile (file job.source)) (Err f))
    → copy_says request.source (copy_wanted file request) (copy_answer request f) (kind_of (copy_answer request f))
copy_refused file request f h read =
    refused_says (copying_said file request) request f h (not_missed file request (copying_said file request) refl f h read)

-- ---- what was expected where a count shows no failure

expected : (source : List ℕ) (wanted : Result CopyJob Answer) (a : Answer) (k : Kind) → (k ≡ Counted → a ≡ answer.NoMemory)
    → (k ≡ LineFailed → ⊥) → copy_says source wanted a k → copy_expects source wanted a k
expected source wanted a (Finished said) memory line h = h
expected source wanted a LineFailed memory line h = absurd (line refl)
expected source wanted a Counted memory line h = memory refl
expected source wanted a Refused memory line h = h

source_memory : (before now : Counts) (old new : Meter) (name : List ℕ) (f : SourceFault) → IsShown before now old new (fault.Map f)
    → ¬ (Rose before.faults now.faults) → kind_of (source_answer name f) ≡ Counted → source_answer name f ≡ answer.NoMemory
source_memory before now old new name source.FileFault h steady kind = absurd (steady h)
source_memory before now old new name source.NoMemory h steady kind = refl
source_memory before now old new name source.Missing h steady kind = cc
source_memory before now old new name (source.SourceShort at) h steady kind = cc
source_memory before now old new name (source.BadMap place) h steady kind = cc
source_memory before now old new name (source.OtherVersion place) h steady kind = cc
source_memory before now old new name (source.OtherDigest place) h steady kind = cc
source_memory before now old new name (source.BadCounts want got) h steady kind = cc
source_memory before now old new name (source.SumDiffers want got) h steady kind = cc

run_memory : (before now : Counts) (old new : Meter) (name : List ℕ) (f : CopyFault) → IsShown before now old new (fault.Copy f)
    → ¬ (Rose before.faults now.faults) → ¬ (Rose old.faults.target new.faults.target) → ¬ (Rose old.faults.journal new.faults.journal)
    → kind_of (run_answer name f) ≡ Counted → run_answer name f ≡ answer.NoMemory
run_memory before now old new name (run.TargetTooSmall has needs) h steady target journal kind = cc
run_memory before now old new name (run.JournalHeld kept finished) h steady target journal kind = cc
run_memory before now old new name run.NoJournal h steady target journal kind = cc
run_memory before now old new name (run.JournalForeign kept given len) h steady target journal kind = cc
run_memory before now old new name (run.SourceShort at) h steady target journal kind = cc
run_memory before now old new name run.Missing h steady target journal kind = cc
run_memory before now old new name run.FileFault h steady target journal kind = absurd (steady h)
run_memory before now old new name (run.DeviceFault dev.Target) h steady target journal kind = absurd (target h)
run_memory before now old new name (run.DeviceFault dev.Journal) h steady target journal kind = absurd (journal h)
run_memory before now old new name (run.RangeDiffers range want got) h steady target journal kind = cc
run_memory before now old new name run.NoMemory h steady target journal kind = refl

memory_alone : (before now : Counts) (old new : Meter) (request : CopyRequest) (f : CopyJobFault) → IsShown before now old new f
    → ¬ (Rose before.faults now.faults) → ¬ (Rose old.faults.target new.faults.target) → ¬ (Rose old.faults.journal new.faults.journal)
    → kind_of (copy_answer request f) ≡ Counted → copy_answer request f ≡ answer.NoMemory
memory_alone before now old new request fault.Compressed h steady target journal kind = cc
memory_alone before now old new request fault.Missing h steady target journal kind = cc
memory_alone before now old new request fault.FileFault h steady target journal kind = absurd (steady h)
memory_alone before now old new request (fault.Map f) h steady target journal kind = source_memory before now old new request.map f h steady kind
memory_alone before now old new request (fault.TooManyUnits count limit) h steady target journal kind = cc
memory_alone before now old new request (fault.DeviceFault dev.Target) h steady target journal kind = absurd (target h)
memory_alone before now old new request (fault.DeviceFault dev.Journal) h steady target journal kind = absurd (journal h)
memory_alone before now old new request (fault.Copy f) h steady target journal kind = run_memory before now old new request.source f h steady target journal kind
memory_alone before now old new request fault.NoMemory h steady target journal kind = refl

map_line : (name : List ℕ) (f : SourceFault) → kind_of (source_answer name f) ≡ LineFailed → ⊥
map_line name source.Missing kind = cc
map_line name (source.SourceShort at) kind = cc
map_line name source.FileFault kind = cc
map_line name (source.BadMap place) kind = cc
map_line name (source.OtherVersion place) kind = cc
map_line name (source.OtherDigest place) kind = cc
map_line name (source.BadCounts want got) kind = cc
map_line name (source.SumDiffers want got) kind = cc
map_line name source.NoMemory kind = cc

run_line : (name : List ℕ) (f : CopyFault) → kind_of (run_answer name f) ≡ LineFailed → ⊥
run_line name (run.TargetTooSmall has needs) kind = cc
run_line name (run.JournalHeld kept finished) kind = cc
run_line name run.NoJournal kind = cc
run_line name (run.JournalForeign kept given len) kind = cc
run_line name (run.SourceShort at) kind = cc
run_line name run.Missing kind = cc
run_line name run.FileFault kind = cc
run_line name (run.DeviceFault dev) kind = cc
run_line name (run.RangeDiffers range want got) kind = cc
run_line name run.NoMemory kind = cc

refused_line : (request : CopyRequest) (f : CopyJobFault) → kind_of (copy_answer request f) ≡ LineFailed → ⊥
refused_line request fault.Compressed kind = cc
refused_line request fault.Missing kind = cc
refused_line request fault.FileFault kind = cc
refused_line request (fault.Map f) kind = map_line request.map f kind
refused_line request (fault.TooManyUnits count limit) kind = cc
refused_line request (fault.DeviceFault dev) kind = cc
refused_line request (fault.Copy f) kind = run_line request.source f kind
refused_line request fault.NoMemory kind = cc

pub copy_completes : (file : Tree) (request : CopyRequest) (before now : Counts) (old new : Meter) (f : CopyJobFault)
    → Answers (copying_said file request) (Err f) → IfOk (copying_said file request) (λ job. OfRun (TellsFile (file job.source)) (Err f))
    → IsShown before now old new f → ¬ (Rose before.faults now.faults)
    → ¬ (Rose old.faults.target new.faults.target) → ¬ (Rose old.faults.journal new.faults.journal)
    → copy_expects request.source (copy_wanted file request) (copy_answer request f) (kind_of (copy_answer request f))
copy_completes file request before now old new f h read shown steady target journal =
    expected request.source (copy_wanted file request) (copy_answer request f) (kind_of (copy_answer request f))
    (memory_alone before now old new request f shown steady target journal) (refused_line request f) (copy_refused file request f h read)

-- ---- an answer of work that is done

pub done_says : (said : Result CopyJob CopyJobFault) (request : CopyRequest) (tally : Tally) (answered : Result Unit PrintErr) (a : Answer)
    → a ≡ reported_of answered (report.Copied tally.units tally.written tally.kept) → IsOk said
    → copy_says request.source (refused_by (copy_answer request) said) a (kind_of a)
done_says said request tally (Ok printed) a is h =
    subst (λ (x : Answer). copy_says request.source (refused_by (copy_answer request) said) x (kind_of x)) (sym is)
    (is_ok (copy_answer request) said h, tt)
done_says said request tally (Err failed) a is h =
    subst (λ (x : Answer). copy_says request.source (refused_by (copy_answer request) said) x (kind_of x)) (sym is)
    (is_ok (copy_answer request) said h)

pub done_completes : (said : Result CopyJob CopyJobFault) (request : CopyRequest) (tally : Tally) (answered : Result Unit PrintErr) (a : Answer)
    (before now : ℕ) → a ≡ reported_of answered (report.Copied tally.units tally.written tally.kept)
    → Reports (report.Copied tally.units tally.written tally.kept) before now a → ¬ (Rose before now) → IsOk said
    → copy_expects request.source (refused_by (copy_answer request) said) a (kind_of a)
done_completes said request tally (Ok printed) a before now is reports steady h =
    subst (λ (x : Answer). copy_expects request.source (refused_by (copy_answer request) said) x (kind_of x)) (sym is)
    (is_ok (copy_answer request) said h, tt)
done_completes said request tally (Err failed) a before now is reports steady h =
    absurd (steady (subst (λ (x : Answer). Reports (report.Copied tally.units tally.written tally.kept) before now x) is reports))

pub report_is_written : (said : Report) (answered : Result Unit PrintErr) (a : Answer) → a ≡ reported_of answered said → IsUnwritten a → ⊥
report_is_written said (Ok printed) a is h = subst (λ (x : Answer). IsUnwritten x) is h
report_is_written said (Err failed) a is h = subst (λ (x : Answer). IsUnwritten x) is h

-- ---- what is left as it was

run_unwritten : (name : List ℕ) (f : CopyFault) → IsUnwritten (run_answer name f) → copies.IsUnwritten (fault.Copy f)
run_unwritten name (run.TargetTooSmall has needs) h = tt
run_unwritten name (run.JournalHeld kept finished) h = tt
run_unwritten name run.NoJournal h = tt
run_unwritten name (run.JournalForeign kept given len) h = tt
run_unwritten name (run.SourceShort at) h = absurd h
run_unwritten name run.Missing h = absurd h
run_unwritten name run.FileFault h = absurd h
run_unwritten name (run.DeviceFault dev) h = absurd h
run_unwritten name (run.RangeDiffers range want got) h = absurd h
run_unwritten name run.NoMemory h = tt

pub fault_unwritten : (request : CopyRequest) (f : CopyJobFault) → IsUnwritten (copy_answer request f) → copies.IsUnwritten f
fault_unwritten request fault.Compressed h = tt
fault_unwritten request fault.Missing h = tt
fault_unwritten request fault.FileFault h = tt
fault_unwritten request (fault.Map f) h = tt
fault_unwritten request (fault.TooManyUnits count limit) h = tt
fault_unwritten request (fault.DeviceFault dev) h = tt
fault_unwritten request (fault.Copy f) h = run_unwritten request.source f h
fault_unwritten request fault.NoMemory h = tt

-- where there is no job the work was refused before the copy was opened
pub unsaid_is_before : {A : Type 0} (said : Result CopyJob CopyJobFault) (f : CopyJobFault) → Answers said (Err f)
    → (copies.IsBefore f → A) → IfErr said (λ refusal. A)
unsaid_is_before {A} (Ok job) f h left = tt
unsaid_is_before {A} (Err refusal) fault.Compressed h left = left tt
unsaid_is_before {A} (Err refusal) fault.Missing h left = left tt
unsaid_is_before {A} (Err refusal) fault.FileFault h left = left tt
unsaid_is_before {A} (Err refusal) (fault.Map f) h left = left tt
unsaid_is_before {A} (Err refusal) (fault.TooManyUnits count limit) h left = left tt
unsaid_is_before {A} (Err refusal) (fault.DeviceFault dev) h left = left tt
unsaid_is_before {A} (Err refusal) (fault.Copy f) h left = cc
unsaid_is_before {A} (Err refusal) fault.NoMemory h left = left tt

pub unsaid_isnt_done : (A : Type 0) (said : Result CopyJob CopyJobFault) → IsOk said → IfErr said (λ refusal. A)
unsaid_isnt_done A (Ok job) h = tt
unsaid_isnt_done A (Err refusal) h = cc
