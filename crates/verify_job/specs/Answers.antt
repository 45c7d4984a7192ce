-- What verifying answers, by the map that is said of a file and by what the target reads.
use Rattle.std.specs.Prelude.{◌≡◌, ℕ, ◌<◌, ◌≤◌, List, length, Result, Ok, Err, IsOk, IsOkAnd}
use Rattle.block_map.specs.declared.maps.BlockMap.{BlockMap}
use Rattle.job_stages.specs.Stages.{Refuses}
use Rattle.map_source.specs.Faults.{is_counted}
use Rattle.map_source.specs.declared.faults.SourceFault.{SourceFault}
use Rattle.map_source.specs.declared.sources.MapSource.{MapSource}
use Rattle.verifier.specs.Checks.{IsDigestOf, IsFirstToDiffer, IsVerified, digests_among}
use Rattle.verify_job.specs.declared.faults.VerifyJobFault.{VerifyJobFault}
use Rattle.verify_job.specs.declared.faults.VerifyJobFault.TheVariants.{Map, TargetTooSmall, TargetDiffers}
use Rattle.verify_job.specs.declared.faults.VerifyJobFault.TheVariants.{DeviceFault, NoMemory}

-- ---- over told files

-- The map is the one that is said, and what is answered speaks of it; or the fault is the one that is said, a call
-- failed or memory was refused.
abbrev pub MapAnswers : Result MapSource SourceFault → Result ℕ VerifyJobFault → Type 0
MapAnswers said (Ok count) = IsOkAnd said (λ source. count ≡ digests_among source.map.ranges)
MapAnswers said (Err (Map fault)) = Refuses is_counted said fault
MapAnswers said (Err (TargetTooSmall has needs)) = IsOkAnd said (λ source. needs ≡ source.map.size)
MapAnswers said (Err (TargetDiffers range want got)) = IsOkAnd said (λ source. IsDigestOf source.map range want)
MapAnswers said (Err (DeviceFault dev)) = IsOk said
MapAnswers said (Err NoMemory) = IsOk said

-- ---- over told files and a told bench

-- A target of these bytes is verified by a map, too small exactly where it is shorter than the map's image, or it
-- differs, of which the first range is told; or a call failed or memory was refused.
abbrev pub TargetAnswers : BlockMap → List ℕ → Result ℕ VerifyJobFault → Type 0
TargetAnswers map bytes (Ok count) = IsVerified map bytes
TargetAnswers map bytes (Err (Map fault)) = Unit {0}
TargetAnswers map bytes (Err (TargetTooSmall has needs)) = (has ≡ length bytes) × (needs ≡ map.size) × (has < needs)
TargetAnswers map bytes (Err (TargetDiffers range want got)) =
    (map.size ≤ length bytes) × IsFirstToDiffer map bytes range want got
TargetAnswers map bytes (Err (DeviceFault dev)) = Unit {0}
TargetAnswers map bytes (Err NoMemory) = Unit {0}

-- the same by the map that is said, where there is one
abbrev pub Verifies : Result MapSource SourceFault → List ℕ → Result ℕ VerifyJobFault → Type 0
Verifies (Ok source) bytes result = TargetAnswers source.map bytes result
Verifies (Err refusal) bytes result = Unit {0}
