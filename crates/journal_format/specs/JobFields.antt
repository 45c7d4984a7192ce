-- The 64 bytes of a journal that tell its job, and the limits of a job's numbers.
use Rattle.std.specs.Prelude.{ℕ, ◌<◌, ◌≤◌, ◌^◌, List, ◌++◌}
use Rattle.byteorder.specs.Endian.{little_bytes}
use Rattle.block_map.specs.Maps.{max_ranges}
use Rattle.block_map.specs.Units.{max_units}
use Rattle.journal_format.specs.declared.jobs.JobId.{JobId}

-- the bytes 16 to 79 of a journal of this job: the digest, the image's size, the size of a block, the size of a
-- unit, the number of units, and the number of ranges
unfoldable pub fields_of : JobId → List ℕ
fields_of id =
    id.digest ++ (little_bytes 8 id.size ++ (little_bytes 4 id.block ++ (little_bytes 4 id.unit
    ++ (little_bytes 8 id.units ++ little_bytes 8 id.ranges))))

-- the numbers are as wide as their fields
pub record FitFields (id : JobId) : Type 0 where
  pub size : id.size < 2 ^ 64
  pub block : id.block < 2 ^ 32
  pub unit : id.unit < 2 ^ 32
  pub units : id.units < 2 ^ 64
  pub ranges : id.ranges < 2 ^ 64

-- the job has no more units and ranges than a map may have
pub record IsWithinLimits (id : JobId) : Type 0 where
  pub units : id.units ≤ max_units
  pub ranges : id.ranges ≤ max_ranges
