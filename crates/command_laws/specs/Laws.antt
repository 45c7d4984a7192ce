-- The laws of the commands.
use Rattle.std.specs.Prelude.{◌≡◌, ℕ, List, Option, Ok}
use Rattle.answer_lines.specs.declared.answer.Answer.{Answer}
use Rattle.base_fields.specs.Numbers.{IsPowerBetween}
use Rattle.bench.specs.Disk.{Disk}
use Rattle.block_map.specs.Maps.{IsMap}
use Rattle.copier_course.specs.declared.jobs.CopyJob.{CopyJob}
use Rattle.copy_job.specs.Said.{copying_said}
use Rattle.copy_job.specs.declared.requests.CopyRequest.{CopyRequest}
use Rattle.copy_states.specs.Jobs.{IsJobOf}
use Rattle.map_source.specs.Said.{map_said}
use Rattle.map_source.specs.declared.sources.MapSource.{MapSource}
use Rattle.outside.specs.Files.{Tree}
use Rattle.command_laws.specs.Copies.{CanBeDone, Counters, HasClauses, IsCompleted, NoneFailed}

-- ---- what the files say
-- what is read of a text is a map: its ranges ascend, and so on
abbrev pub SaidMapsAreMaps : Type 0
SaidMapsAreMaps = (file : Option (List ℕ)) (source : MapSource) → map_said file ≡ Ok source → IsMap source.map

-- so the job that the files say is one of its map, by a unit of the words
abbrev pub SaidJobsAreJobs : Type 0
SaidJobsAreJobs = (file : Tree) (request : CopyRequest) (job : CopyJob) → IsPowerBetween 65536 4194304 request.unit →
    copying_said file request ≡ Ok job → IsJobOf job.id job.map

-- ---- copies
-- a copy that can be done is done where no call and no line fails, or memory was refused, and nothing was written
abbrev pub CopiesComplete : {B : Type 0} → Type 0 → (B → Disk) → Type 0
CopiesComplete {B} told disk = (file : Tree) (request : CopyRequest) (job : CopyJob) (was now : Counters) (old new : B)
    (answer : Answer) → CanBeDone file request job (disk old) → NoneFailed was now →
    HasClauses told file request was now (disk old) (disk new) answer → IsCompleted job (disk old) (disk new) answer
