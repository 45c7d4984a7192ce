-- What the answer of `map` says of the image, of the counts, of the map's file and of the lines.
use Rattle.std.specs.Prelude.{◌≡◌, ◌≢◌, ◌⊎◌, ℕ, List, Result, Ok, Err, IsOkAnd}
use Rattle.base_fields.specs.Results.{◌>>=◌, refused_by}
use Rattle.base_fields.specs.declared.names.Pair.{Pair}
use Rattle.outside.specs.Counts.{Counts, Rose}
use Rattle.outside.specs.Files.{Tree}
use Rattle.answer_lines.specs.Kind.{Kind, Finished, LineFailed, Counted, Refused, kind_of}
use Rattle.answer_lines.specs.declared.answer.Answer.{Answer}
use Rattle.answer_lines.specs.declared.answer.Answer.TheVariants as answer
use Rattle.answer_lines.specs.declared.answer.Report.{Report}
use Rattle.answer_lines.specs.declared.answer.Report.TheVariants as report
use Rattle.conf_keys.specs.declared.conf.Conf.{Conf}
use Rattle.image_graph.specs.Graph.{graph_of}
use Rattle.image_graph.specs.declared.images.Graph.{Graph}
use Rattle.job_stages.specs.Stages.{Refuses}
use Rattle.map_job.specs.Mapped.{IsMapped}
use Rattle.map_job.specs.Said.{Image, mapping_said}
use Rattle.map_job.specs.declared.faults.MappingFault.{MappingFault}
use Rattle.map_job.specs.declared.faults.MappingFault.TheVariants as fault
use Rattle.map_job.specs.declared.mapping.Mapped.{Mapped}
use Rattle.range_digest.specs.declared.digests.DigestFault.{DigestFault}
use Rattle.range_digest.specs.declared.digests.DigestFault.TheVariants as digest
use Rattle.job_answers.specs.Printed.{is_counted}
use Rattle.image_jobs.specs.Answering.{full_at, graph_answer, length_answer, plan_answer}
use Rattle.image_jobs.specs.Build.{conf_said}
use Rattle.image_jobs.specs.BuildArm.{IsShown}
use Rattle.job_answers.specs.Said.{IsExpected, Says}
use Rattle.image_jobs.specs.declared.request.MapRequest.{MapRequest}

-- ---- the answer of each fault

-- of the image of that number, which has a file
abbrev pub digest_answer : Graph → ℕ → DigestFault → Answer
digest_answer graph image digest.Missing = answer.Missing (full_at graph image)
digest_answer graph image (digest.SourceShort at) = answer.SourceShort (full_at graph image) at
digest_answer graph image digest.FileFault = answer.FileFault

abbrev pub mapping_answer : Graph → List ℕ → List ℕ → MappingFault → Answer
mapping_answer graph image out fault.NoImage = answer.NoImage image
mapping_answer graph image out fault.NameClash = answer.NameClash out
mapping_answer graph image out (fault.Plan number refusal) = plan_answer graph number refusal
mapping_answer graph image out (fault.Measure number refusal) = length_answer graph number refusal
mapping_answer graph image out (fault.ImageStale has needs) = answer.ImageStale has needs
mapping_answer graph image out (fault.Digest number refusal) = digest_answer graph number refusal
mapping_answer graph image out fault.FileFault = answer.FileFault
mapping_answer graph image out fault.NoMemory = answer.NoMemory

-- ---- what is wanted

-- what counts of the image of that name, by the graph of a configuration of these texts
abbrev pub image_wanted : Tree → List ℕ → List ℕ → List (List ℕ) → Graph → Result Image Answer
image_wanted file image out texts graph = refused_by (mapping_answer graph image out) (mapping_said texts graph file image out)

abbrev pub graph_wanted : Tree → List ℕ → List ℕ → Conf → Result Image Answer
graph_wanted file image out conf = refused_by graph_answer (graph_of conf) >>= image_wanted file image out conf.texts

-- the same of the files: the refusal of the texts, of the graph or of the image comes first
abbrev pub map_wanted : List Pair → Tree → MapRequest → Result Image Answer
map_wanted vars file mapping = conf_said vars file mapping.request >>= graph_wanted file mapping.image mapping.out

-- the map of the image is in the file, or the wanted refusal is given, or a call failed or memory was refused
abbrev pub Maps : Result Image Answer → ℕ → List ℕ → Tree → Result Mapped Answer → Type 0
Maps wanted block out after (Ok mapped) = IsOkAnd wanted (λ image. IsMapped image block (after out) mapped)
Maps wanted block out after (Err refusal) = Refuses is_counted wanted refusal

-- ---- the answer

-- a report has the numbers of a map
abbrev pub IsMapReport : Report → Type 0
IsMapReport (report.Mapped ranges blocks) = Unit {0}
IsMapReport other = ⊥

abbrev pub is_mapped : Image → Report → Type 0
is_mapped image said = IsMapReport said

abbrev pub MapAnswers : Result Image Answer → Answer → Type 0
MapAnswers wanted answer = Says wanted is_mapped answer

-- ---- its cause

-- what no build answers: there is no such image, or its file has another length than its layout
abbrev pub IsOfMap : Answer → Type 0
IsOfMap (answer.NoImage name) = Unit {0}
IsOfMap (answer.ImageStale has needs) = has ≢ needs
IsOfMap other = ⊥

-- an answer that comes before the lines is shown as that of a build, by the counts of the files, or is one of these two
abbrev pub IsMapShown : Counts → Counts → Answer → Type 0
IsMapShown before now answer = IsShown before now answer ⊎ IsOfMap answer

abbrev pub map_cause_by : Counts → Counts → ℕ → ℕ → Answer → Kind → Type 0
map_cause_by before now lines_before lines_now answer (Finished said) = lines_now ≡ lines_before
map_cause_by before now lines_before lines_now answer LineFailed = Rose lines_before lines_now
map_cause_by before now lines_before lines_now answer Counted = IsMapShown before now answer
map_cause_by before now lines_before lines_now answer Refused = IsMapShown before now answer

abbrev pub MapCause : Counts → Counts → ℕ → ℕ → Answer → Type 0
MapCause before now lines_before lines_now answer =
    map_cause_by before now lines_before lines_now answer (kind_of answer)

-- where no call and no line failed
abbrev pub MapCompletes : Result Image Answer → Counts → Counts → ℕ → ℕ → Answer → Type 0
MapCompletes wanted before now lines_before lines_now answer =
    ¬ (Rose before.faults now.faults) → ¬ (Rose lines_before lines_now) → IsExpected wanted answer

-- ---- the map

-- its numbers are those of the map that the file has
abbrev pub has_map : Image → ℕ → List ℕ → Tree → Report → Type 0
has_map image block out after (report.Mapped ranges blocks) =
    IsMapped image block (after out) (record { ranges = ranges; blocks = blocks })
has_map image block out after other = ⊥

-- the file has the map of the image
abbrev pub HasSomeMap : ℕ → List ℕ → Tree → Image → Type 0
HasSomeMap block out after image = (mapped : Mapped) × IsMapped image block (after out) mapped

abbrev pub mapped_by : Result Image Answer → MapRequest → Tree → Kind → Type 0
mapped_by wanted mapping after (Finished said) =
    IsOkAnd wanted (λ image. has_map image mapping.block mapping.out after said)
mapped_by wanted mapping after LineFailed = IsOkAnd wanted (HasSomeMap mapping.block mapping.out after)
mapped_by wanted mapping after Counted = Unit {0}
mapped_by wanted mapping after Refused = Unit {0}

-- so it is where the work is done
abbrev pub HasMapped : Result Image Answer → MapRequest → Tree → Answer → Type 0
HasMapped wanted mapping after answer = mapped_by wanted mapping after (kind_of answer)
