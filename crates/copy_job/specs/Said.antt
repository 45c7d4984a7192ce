-- The copy that words ask for, by what the files have.
use Rattle.std.specs.Prelude.{ℕ, Bool, not, nat_eq, nat_le, List, [], ◌∷◌, length, codes, Result}
use Rattle.std.specs.List.{ends_with, list_any}
use Rattle.base_fields.specs.Results.{◌>>=◌, or_else, refused_by, when}
use Rattle.block_map.specs.Units.{cut_of, max_units, units_of}
use Rattle.outside.specs.Files.{Tree}
use Rattle.copier_course.specs.declared.jobs.CopyJob.{CopyJob}
use Rattle.journal_format.specs.declared.jobs.JobId.{JobId}
use Rattle.map_source.specs.Said.{map_said}
use Rattle.map_source.specs.declared.sources.MapSource.{MapSource}
use Rattle.copy_job.specs.declared.faults.CopyJobFault.{CopyJobFault}
use Rattle.copy_job.specs.declared.faults.CopyJobFault.TheVariants.{Compressed, Missing, Map, TooManyUnits}
use Rattle.copy_job.specs.declared.requests.CopyRequest.{CopyRequest}

-- ---- the source
-- how the name of a file ends that is compressed, or holds others
abbrev pub endings : List (List ℕ)
endings = codes ".gz" ∷ codes ".bz2" ∷ codes ".xz" ∷ codes ".zst" ∷ codes ".lz4" ∷ codes ".lzma" ∷ codes ".zip" ∷ codes ".tar" ∷ []

abbrev pub is_compressed : List ℕ → Bool
is_compressed name = list_any (ends_with nat_eq name) endings

-- the name of a file that is there, and isn't compressed
abbrev pub source_said : Tree → List ℕ → Result (List ℕ) CopyJobFault
source_said file name = when (not (is_compressed name)) name Compressed >>= λ name. or_else (file name) Missing

-- ---- the job
-- the id of a job: the digest of the map's file, the numbers of the map, and those of its units and ranges
abbrev pub id_of : MapSource → ℕ → JobId
id_of source unit = record {
  digest = source.digest;
  size = source.map.size;
  block = source.map.block;
  unit = unit;
  units = length (units_of source.map unit);
  ranges = length source.map.ranges;
}

abbrev pub job_of : CopyRequest → MapSource → CopyJob
job_of request source = record {
  source = request.source;
  map = source.map;
  units = cut_of source.map request.unit;
  id = id_of source request.unit;
  mode = request.mode;
  window = request.window;
}

-- a map that hasn't too many units
abbrev pub job_in : CopyRequest → MapSource → Result CopyJob CopyJobFault
job_in request source = when (nat_le (length (units_of source.map request.unit)) max_units) (job_of request source)
    (TooManyUnits (length (units_of source.map request.unit)) max_units)

-- the job, or the first reason why there is none: the source is compressed or isn't there, the map isn't read, or has too
-- many units
abbrev pub copying_said : Tree → CopyRequest → Result CopyJob CopyJobFault
copying_said file request = source_said file request.source >>= λ bytes. refused_by Map (map_said (file request.map)) >>= job_in request
