-- What the answer of `verify` says.
use Rattle.std.proofs.Common.{◌≡◌, ℕ, List, Result, Ok, Err, refl, ap}
use Rattle.std.specs.Prelude.{IsOk, IsOkAnd}
use Rattle.base_fields.specs.Results.{refused_by}
use Rattle.outside.specs.Counts.{Counts, Rose}
use Rattle.outside.specs.Files.{Tree}
use Rattle.answer_lines.specs.Kind.{Kind, Finished, LineFailed, Counted, Refused, kind_of}
use Rattle.answer_lines.specs.declared.answer.Answer.{Answer}
use Rattle.answer_lines.specs.declared.answer.Answer.TheVariants.{NoMemory}
use Rattle.answer_lines.specs.declared.answer.Report.TheVariants as report
use Rattle.bench.specs.Meter.{Meter}
use Rattle.map_source.specs.Said.{map_said}
use Rattle.map_source.specs.declared.faults.SourceFault.{SourceFault}
use Rattle.map_source.specs.declared.faults.SourceFault.TheVariants as source
use Rattle.map_source.specs.declared.sources.MapSource.{MapSource}
use Rattle.verifier.specs.Checks.{digests_among}
use Rattle.verify_job.specs.Answers.{MapAnswers, Verifies}
use Rattle.verify_job.specs.Faults.{IsShown}
use Rattle.verify_job.specs.declared.faults.VerifyJobFault.{VerifyJobFault}
use Rattle.verify_job.specs.declared.faults.VerifyJobFault.TheVariants as fault
use Rattle.job_answers.proofs.SaidLemmas.{ok_and}
use Rattle.device_commands.specs.VerifyArm.{Compares, VerifyAnswers, VerifyCompletes, compared_by, compared_with, source_answer}
use Rattle.device_commands.specs.VerifyArm.{source_wanted, verify_answer, verify_expects, verify_says}

-- ---- a refusal

map_refused : (said : Result MapSource SourceFault) (name : List ℕ) (f : SourceFault) → MapAnswers said (Err (fault.Map f))
    → verify_says (refused_by (source_answer name) said) (source_answer name f) (kind_of (source_answer name f))
map_refused said name source.Missing h = ap (refused_by (source_answer name)) h
map_refused said name (source.SourceShort at) h = ap (refused_by (source_answer name)) h
map_refused said name source.FileFault h = tt
map_refused said name (source.BadMap place) h = ap (refused_by (source_answer name)) h
map_refused said name (source.OtherVersion place) h = ap (refused_by (source_answer name)) h
map_refused said name (source.OtherDigest place) h = ap (refused_by (source_answer name)) h
map_refused said name (source.BadCounts want got) h = ap (refused_by (source_answer name)) h
map_refused said name (source.SumDiffers want got) h = ap (refused_by (source_answer name)) h
map_refused said name source.NoMemory h = tt

refused_says : (said : Result MapSource SourceFault) (name : List ℕ) (f : VerifyJobFault) → MapAnswers said (Err f)
    → verify_says (refused_by (source_answer name) said) (verify_answer name f) (kind_of (verify_answer name f))
refused_says said name (fault.Map f) h = map_refused said name f h
refused_says said name (fault.TargetTooSmall has needs) h = ok_and (source_answer name) said _ h
refused_says said name (fault.TargetDiffers range want got) h = ok_and (source_answer name) said _ h
refused_says said name (fault.DeviceFault dev) h = tt
refused_says said name fault.NoMemory h = tt

pub verify_refused : (file : Tree) (name : List ℕ) (f : VerifyJobFault) → MapAnswers (map_said (file name)) (Err f)
    → VerifyAnswers file name (verify_answer name f)
verify_refused file name f h = refused_says (map_said (file name)) name f h

-- what was expected where a count shows no failure
expected : (wanted : Result MapSource Answer) (answer : Answer) (k : Kind) → (k ≡ Counted → answer ≡ NoMemory)
    → (k ≡ LineFailed → ⊥) → verify_says wanted answer k → verify_expects wanted answer k
expected wanted answer (Finished said) memory line h = finished wanted h
  where
    finished : (w : Result MapSource Answer) → IsOkAnd w (λ source. said ≡ report.Verified (digests_among source.map.ranges)) → IsOk w
    finished (Ok source) h = refl
    finished (Err refusal) h = absurd h
expected wanted answer LineFailed memory line h = absurd (line refl)
expected wanted answer Counted memory line h = memory refl
expected wanted answer Refused memory line h = h

source_memory : (before now : Counts) (old new : Meter) (name : List ℕ) (f : SourceFault) → IsShown before now old new (fault.Map f)
    → ¬ (Rose before.faults now.faults) → kind_of (source_answer name f) ≡ Counted → source_answer name f ≡ NoMemory
source_memory before now old new name source.FileFault h steady kind = absurd (steady h)
source_memory before now old new name source.NoMemory h steady kind = refl
source_memory before now old new name source.Missing h steady kind = cc
source_memory before now old new name (source.SourceShort at) h steady kind = cc
source_memory before now old new name (source.BadMap place) h steady kind = cc
source_memory before now old new name (source.OtherVersion place) h steady kind = cc
source_memory before now old new name (source.OtherDigest place) h steady kind = cc
source_memory before now old new name (source.BadCounts want got) h steady kind = cc
source_memory before now old new name (source.SumDiffers want got) h steady kind = cc

memory_alone : (before now : Counts) (old new : Meter) (name : List ℕ) (f : VerifyJobFault) → IsShown before now old new f
    → ¬ (Rose before.faults now.faults) → ¬ (Rose old.faults.target new.faults.target)
    → kind_of (verify_answer name f) ≡ Counted → verify_answer name f ≡ NoMemory
memory_alone before now old new name (fault.Map f) h steady device kind = source_memory before now old new name f h steady kind
memory_alone before now old new name (fault.TargetTooSmall has needs) h steady device kind = cc
memory_alone before now old new name (fault.TargetDiffers range want got) h steady device kind = cc
memory_alone before now old new name (fault.DeviceFault dev) h steady device kind = absurd (device h.1)
memory_alone before now old new name fault.NoMemory h steady device kind = refl

refused_line : (name : List ℕ) (f : VerifyJobFault) → kind_of (verify_answer name f) ≡ LineFailed → ⊥
refused_line name (fault.Map source.Missing) kind = cc
refused_line name (fault.Map (source.SourceShort at)) kind = cc
refused_line name (fault.Map source.FileFault) kind = cc
refused_line name (fault.Map (source.BadMap place)) kind = cc
refused_line name (fault.Map (source.OtherVersion place)) kind = cc
refused_line name (fault.Map (source.OtherDigest place)) kind = cc
refused_line name (fault.Map (source.BadCounts want got)) kind = cc
refused_line name (fault.Map (source.SumDiffers want got)) kind = cc
refused_line name (fault.Map source.NoMemory) kind = cc
refused_line name (fault.TargetTooSmall has needs) kind = cc
refused_line name (fault.TargetDiffers range want got) kind = cc
refused_line name (fault.DeviceFault dev) kind = cc
refused_line name fault.NoMemory kind = cc

pub verify_completes : (file : Tree) (name : List ℕ) (before now : Counts) (lines_before lines_now : ℕ) (old new : Meter)
    (f : VerifyJobFault) → MapAnswers (map_said (file name)) (Err f) → IsShown before now old new f
    → VerifyCompletes file name before now lines_before lines_now old new (verify_answer name f)
verify_completes file name before now lines_before lines_now old new f h shown steady printed device =
    expected (source_wanted file name) (verify_answer name f) (kind_of (verify_answer name f))
    (memory_alone before now old new name f shown steady device) (refused_line name f) (verify_refused file name f h)

map_compared : (s : MapSource) (bytes name : List ℕ) (f : SourceFault) → MapAnswers (Ok s) (Err (fault.Map f))
    → compared_by s.map bytes (source_answer name f) (kind_of (source_answer name f))
map_compared s bytes name source.Missing h = cc
map_compared s bytes name (source.SourceShort at) h = cc
map_compared s bytes name source.FileFault h = tt
map_compared s bytes name (source.BadMap place) h = cc
map_compared s bytes name (source.OtherVersion place) h = cc
map_compared s bytes name (source.OtherDigest place) h = cc
map_compared s bytes name (source.BadCounts want got) h = cc
map_compared s bytes name (source.SumDiffers want got) h = cc
map_compared s bytes name source.NoMemory h = tt

refused_compared : (said : Result MapSource SourceFault) (bytes name : List ℕ) (f : VerifyJobFault) → MapAnswers said (Err f)
    → Verifies said bytes (Err f) → compared_with (refused_by (source_answer name) said) bytes (verify_answer name f)
refused_compared (Err refusal) bytes name f h target = tt
refused_compared (Ok source) bytes name (fault.Map f) h target = map_compared source bytes name f h
refused_compared (Ok source) bytes name (fault.TargetTooSmall has needs) h target = target
refused_compared (Ok source) bytes name (fault.TargetDiffers range want got) h target = target
refused_compared (Ok source) bytes name (fault.DeviceFault dev) h target = tt
refused_compared (Ok source) bytes name fault.NoMemory h target = tt

pub verify_compared : (file : Tree) (name bytes : List ℕ) (f : VerifyJobFault) → MapAnswers (map_said (file name)) (Err f)
    → Verifies (map_said (file name)) bytes (Err f) → Compares file name bytes (verify_answer name f)
verify_compared file name bytes f h target = refused_compared (map_said (file name)) bytes name f h target
