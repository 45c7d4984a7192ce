-- What the answer of `verify` says of the map, of the target, of the counts and of the lines.
use Rattle.std.specs.Prelude.{◌≡◌, ℕ, ◌<◌, ◌≤◌, List, [], ◌∷◌, length, Result, Ok, Err, IsOk, IsOkAnd}
use Rattle.base_fields.specs.Results.{refused_by}
use Rattle.outside.specs.Counts.{Counts, Rose}
use Rattle.outside.specs.Files.{Tree}
use Rattle.answer_lines.specs.Kind.{Kind, Finished, LineFailed, Counted, Refused, kind_of}
use Rattle.answer_lines.specs.Lines.{verified_text}
use Rattle.answer_lines.specs.declared.answer.Answer.{Answer}
use Rattle.answer_lines.specs.declared.answer.Answer.TheVariants as answer
use Rattle.answer_lines.specs.declared.answer.Answer.TheVariants.{NoMemory}
use Rattle.answer_lines.specs.declared.answer.Report.TheVariants as report
use Rattle.bench.specs.Meter.{Meter}
use Rattle.block_map.specs.declared.maps.BlockMap.{BlockMap}
use Rattle.map_source.specs.Said.{map_said}
use Rattle.map_source.specs.declared.faults.SourceFault.{SourceFault}
use Rattle.map_source.specs.declared.faults.SourceFault.TheVariants as source
use Rattle.map_source.specs.declared.sources.MapSource.{MapSource}
use Rattle.verifier.specs.Checks.{IsDigestOf, IsFirstToDiffer, IsVerified, digests_among}
use Rattle.verify_job.specs.Faults.{IsShown}
use Rattle.verify_job.specs.declared.faults.VerifyJobFault.{VerifyJobFault}
use Rattle.verify_job.specs.declared.faults.VerifyJobFault.TheVariants as fault
use Rattle.job_answers.specs.Said.{IsCausedBy, said_lines}

-- ---- the answer of each fault

-- of the reading of a map of that name
abbrev pub source_answer : List ℕ → SourceFault → Answer
source_answer name source.Missing = answer.Missing name
source_answer name (source.SourceShort at) = answer.SourceShort name at
source_answer name source.FileFault = answer.FileFault
source_answer name (source.BadMap place) = answer.BadMap place
source_answer name (source.OtherVersion place) = answer.OtherVersion place
source_answer name (source.OtherDigest place) = answer.OtherDigest place
source_answer name (source.BadCounts want got) = answer.BadCounts want got
source_answer name (source.SumDiffers want got) = answer.SumDiffers want got
source_answer name source.NoMemory = answer.NoMemory

abbrev pub verify_answer : List ℕ → VerifyJobFault → Answer
verify_answer name (fault.Map refusal) = source_answer name refusal
verify_answer name (fault.TargetTooSmall has needs) = answer.TargetTooSmall has needs
verify_answer name (fault.TargetDiffers range want got) = answer.TargetDiffers range want got
verify_answer name (fault.DeviceFault dev) = answer.DeviceFault dev
verify_answer name fault.NoMemory = answer.NoMemory

-- ---- by the files

-- the map of that name, or why there is none
abbrev pub source_wanted : Tree → List ℕ → Result MapSource Answer
source_wanted file name = refused_by (source_answer name) (map_said (file name))

-- a refusal: of the map, or of a target by that map
abbrev pub IsMapRefusal : Result MapSource Answer → Answer → Type 0
IsMapRefusal wanted (answer.TargetTooSmall has needs) = IsOkAnd wanted (λ source. needs ≡ source.map.size)
IsMapRefusal wanted (answer.TargetDiffers range want got) = IsOkAnd wanted (λ source. IsDigestOf source.map range want)
IsMapRefusal wanted other = wanted ≡ Err other

abbrev pub verify_says : Result MapSource Answer → Answer → Kind → Type 0
verify_says wanted answer (Finished said) =
    IsOkAnd wanted (λ source. said ≡ report.Verified (digests_among source.map.ranges))
verify_says wanted answer LineFailed = IsOk wanted
verify_says wanted answer Counted = Unit {0}
verify_says wanted answer Refused = IsMapRefusal wanted answer

-- a target is compared with the map of that name, or why there is none is answered; the number is that of the ranges with
-- a digest
abbrev pub VerifyAnswers : Tree → List ℕ → Answer → Type 0
VerifyAnswers file name answer = verify_says (source_wanted file name) answer (kind_of answer)

abbrev pub verify_expects : Result MapSource Answer → Answer → Kind → Type 0
verify_expects wanted answer (Finished said) = IsOk wanted
verify_expects wanted answer LineFailed = ⊥
verify_expects wanted answer Counted = answer ≡ NoMemory
verify_expects wanted answer Refused = IsMapRefusal wanted answer

-- where no call on the files and on the target and no line failed
abbrev pub VerifyCompletes : Tree → List ℕ → Counts → Counts → ℕ → ℕ → Meter → Meter → Answer → Type 0
VerifyCompletes file name before now lines_before lines_now old new answer =
    ¬ (Rose before.faults now.faults)
    → ¬ (Rose lines_before lines_now)
    → ¬ (Rose old.faults.target new.faults.target)
    → verify_expects (source_wanted file name) answer (kind_of answer)

-- ---- by the target

-- a target of these bytes is refused by a map: it is shorter than the map's image, or a range of it is the first that
-- differs
abbrev pub IsTargetRefusal : BlockMap → List ℕ → Answer → Type 0
IsTargetRefusal map bytes (answer.TargetTooSmall has needs) = (has ≡ length bytes) × (needs ≡ map.size) × (has < needs)
IsTargetRefusal map bytes (answer.TargetDiffers range want got) =
    (map.size ≤ length bytes) × IsFirstToDiffer map bytes range want got
IsTargetRefusal map bytes other = ⊥

abbrev pub compared_by : BlockMap → List ℕ → Answer → Kind → Type 0
compared_by map bytes answer (Finished said) = IsVerified map bytes
compared_by map bytes answer LineFailed = IsVerified map bytes
compared_by map bytes answer Counted = Unit {0}
compared_by map bytes answer Refused = IsTargetRefusal map bytes answer

abbrev pub compared_with : Result MapSource Answer → List ℕ → Answer → Type 0
compared_with (Ok source) bytes answer = compared_by source.map bytes answer (kind_of answer)
compared_with (Err refusal) bytes answer = Unit {0}

-- by the map of that name, where there is one: the target has each digest of the map exactly where the answer says so
abbrev pub Compares : Tree → List ℕ → List ℕ → Answer → Type 0
Compares file name bytes answer = compared_with (source_wanted file name) bytes answer

-- ---- its cause, and its lines

-- by the counts of the files, of the devices and of the lines
abbrev pub VerifyCause : List ℕ → Counts → Counts → Meter → Meter → ℕ → ℕ → Answer → Type 0
VerifyCause name before now old new lines_before lines_now answer =
    IsCausedBy (IsShown before now old new) (verify_answer name) lines_before lines_now answer

abbrev pub verified_lines : MapSource → List (List ℕ)
verified_lines source = verified_text (digests_among source.map.ranges) ∷ []

abbrev pub verify_lines : Tree → List ℕ → Answer → List (List ℕ)
verify_lines file name answer = said_lines (source_wanted file name) verified_lines answer
