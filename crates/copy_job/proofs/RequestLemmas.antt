-- The job of a request.
use Rattle.std.proofs.Common.{◌≡◌, List, ℕ, Bool, true, false, Result, Ok, Err, ap}
use Rattle.std.specs.Prelude.{IsOk, MatchBool}
use Rattle.base_fields.specs.Results.{◌>>=◌, refused_by}
use Rattle.copier_course.specs.declared.jobs.CopyJob.{CopyJob}
use Rattle.job_stages.specs.Stages.{Refuses}
use Rattle.map_source.specs.Faults.{is_counted as is_counted_map}
use Rattle.map_source.specs.declared.faults.SourceFault.{SourceFault}
use Rattle.map_source.specs.declared.sources.MapSource.{MapSource}
use Rattle.copy_job.specs.Faults.{is_counted}
use Rattle.copy_job.specs.Said.{job_in}
use Rattle.copy_job.specs.declared.faults.CopyJobFault.{CopyJobFault}
use Rattle.copy_job.specs.declared.faults.CopyJobFault.TheVariants.{Map}
use Rattle.copy_job.specs.declared.requests.CopyRequest.{CopyRequest}

-- what is said of a request, by what is said of its source and of its map
abbrev pub said_of : CopyRequest → Result (List ℕ) CopyJobFault → Result MapSource SourceFault → Result CopyJob CopyJobFault
said_of request source map = source >>= λ bytes. refused_by Map map >>= job_in request

by_source : (counted : Bool) (request : CopyRequest) (source : Result (List ℕ) CopyJobFault)
    (map : Result MapSource SourceFault) (fault : CopyJobFault) → MatchBool counted (Unit {0}) (source ≡ Err fault) →
    MatchBool counted (Unit {0}) (said_of request source map ≡ Err fault)
by_source true request source map fault refuses = tt
by_source false request source map fault refuses =
    ap (λ (s : Result (List ℕ) CopyJobFault). said_of request s map) refuses

-- where the source isn't there
pub source_refuses : (request : CopyRequest) (source : Result (List ℕ) CopyJobFault) (map : Result MapSource SourceFault)
    (fault : CopyJobFault) → Refuses is_counted source fault → Refuses is_counted (said_of request source map) fault
source_refuses request source map fault refuses = by_source (is_counted fault) request source map fault refuses

by_map : (counted : Bool) (request : CopyRequest) (bytes : List ℕ) (map : Result MapSource SourceFault)
    (fault : SourceFault) → MatchBool counted (Unit {0}) (map ≡ Err fault) →
    MatchBool counted (Unit {0}) (said_of request (Ok bytes) map ≡ Err (Map fault))
by_map true request bytes map fault refuses = tt
by_map false request bytes map fault refuses =
    ap (λ (m : Result MapSource SourceFault). said_of request (Ok bytes) m) refuses

-- where it is, and the map isn't read
pub map_refuses : (request : CopyRequest) (source : Result (List ℕ) CopyJobFault) → IsOk source →
    (map : Result MapSource SourceFault) (fault : SourceFault) → Refuses is_counted_map map fault →
    Refuses is_counted (said_of request source map) (Map fault)
map_refuses request (Ok bytes) there map fault refuses = by_map (is_counted_map fault) request bytes map fault refuses
map_refuses request (Err refusal) there map fault refuses = absurd (cc)

-- where it is read
pub job_said : (request : CopyRequest) (source : Result (List ℕ) CopyJobFault) → IsOk source →
    (map : Result MapSource SourceFault) (found : MapSource) → map ≡ Ok found →
    said_of request source map ≡ job_in request found
job_said request (Ok bytes) there map found is =
    ap (λ (m : Result MapSource SourceFault). said_of request (Ok bytes) m) is
job_said request (Err refusal) there map found is = absurd (cc)
