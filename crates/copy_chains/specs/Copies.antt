-- The runs of a copy that words ask for, as runs of a chain.
use Rattle.std.specs.Prelude.{◌≡◌, List, ℕ, Option, Some, Ok}
use Rattle.base_fields.specs.Numbers.{IsPowerBetween}
use Rattle.chain_laws.specs.Chains.{Job}
use Rattle.copier_course.specs.declared.jobs.CopyJob.{CopyJob}
use Rattle.copy_job.specs.Said.{job_of}
use Rattle.copy_job.specs.declared.requests.CopyRequest.{CopyRequest}
use Rattle.image_specs.specs.declared.specs.ImageSpec.{ImageSpec}
use Rattle.map_source.specs.Said.{map_said}
use Rattle.map_source.specs.declared.sources.MapSource.{MapSource}
use Rattle.outside.specs.Files.{Tree}

-- what a run's job has in common with the other runs of its chain
abbrev pub common_of : CopyJob → Option (List ℕ) → Job
common_of job source = record { id = job.id; map = job.map; source = source }

-- the job that is said of the files: there are the source's bytes and the map, and it is made of these and of the words
pub record IsSaid (file : Tree) (request : CopyRequest) (job : CopyJob) : Type 0 where
  pub bytes : List ℕ
  pub there : file request.source ≡ Some bytes
  pub source : MapSource
  pub map : map_said (file request.map) ≡ Ok source
  pub is : job ≡ job_of request source

-- the words of another run of the same copy; its mode and its window may differ
pub record SameCopy (one other : CopyRequest) : Type 0 where
  pub source : one.source ≡ other.source
  pub map : one.map ≡ other.map
  pub unit : one.unit ≡ other.unit

-- the words name the image's file as the source and OUT as the map
pub record IsOfImage (request : CopyRequest) (spec : ImageSpec) (out : List ℕ) : Type 0 where
  pub source : request.source ≡ spec.full
  pub map : request.map ≡ out
  pub unit : IsPowerBetween 65536 4194304 request.unit
