-- What verifying does to the devices.
use Rattle.std.specs.Prelude.{◌≡◌, ◌⊎◌, ℕ, ◌+◌, ◌*◌, ◌/◌, List, length, Result, Ok, Err}
use Rattle.bench.specs.Meter.{Attaches, CostsOn, Meter, SameNames}
use Rattle.bench.specs.declared.Dev.TheVariants.{Target}
use Rattle.block_map.specs.Maps.{IsMap}
use Rattle.block_map.specs.declared.maps.BlockMap.{BlockMap}
use Rattle.map_source.specs.declared.faults.SourceFault.{SourceFault}
use Rattle.map_source.specs.declared.sources.MapSource.{MapSource}
use Rattle.verifier.specs.Checks.{mapped_bytes}
use Rattle.verifier.specs.declared.faults.VerifyFault.{VerifyFault}
use Rattle.verifier.specs.declared.faults.VerifyFault.TheVariants as target
use Rattle.verify_job.specs.declared.faults.VerifyJobFault.{VerifyJobFault}
use Rattle.verify_job.specs.declared.faults.VerifyJobFault.TheVariants.{Map, TargetTooSmall, TargetDiffers}
use Rattle.verify_job.specs.declared.faults.VerifyJobFault.TheVariants.{DeviceFault, NoMemory}

-- ---- names

-- the target is attached under its word, or each device is attached and named as before
abbrev pub IsAttachedOr : List ℕ → Meter → Meter → Type 0
IsAttachedOr word old new = Attaches Target word old new ⊎ SameNames old new

-- the same of a target that is compared with a map
abbrev pub Attached : List ℕ → Meter → Meter → Result ℕ VerifyFault → Type 0
Attached word old new (Ok count) = Attaches Target word old new
Attached word old new (Err (target.TargetTooSmall has needs)) = Attaches Target word old new
Attached word old new (Err (target.TargetDiffers range want got)) = Attaches Target word old new
Attached word old new (Err (target.DeviceFault dev)) = IsAttachedOr word old new

-- it is attached under its word where it was looked at, and not where nothing was asked of it
abbrev pub Names : List ℕ → Meter → Meter → Result ℕ VerifyJobFault → Type 0
Names word old new (Ok count) = Attaches Target word old new
Names word old new (Err (Map fault)) = SameNames old new
Names word old new (Err (TargetTooSmall has needs)) = Attaches Target word old new
Names word old new (Err (TargetDiffers range want got)) = Attaches Target word old new
Names word old new (Err (DeviceFault dev)) = IsAttachedOr word old new
Names word old new (Err NoMemory) = SameNames old new

-- nothing is asked of the devices before the map is read and all memory is taken
abbrev pub Untouched : {A : Type 0} → A → A → Result ℕ VerifyJobFault → Type 0
Untouched old new (Ok count) = Unit {0}
Untouched old new (Err (Map fault)) = new ≡ old
Untouched old new (Err (TargetTooSmall has needs)) = Unit {0}
Untouched old new (Err (TargetDiffers range want got)) = Unit {0}
Untouched old new (Err (DeviceFault dev)) = Unit {0}
Untouched old new (Err NoMemory) = new ≡ old

-- ---- work

-- the most work of verifying by a map, under a word of n bytes
abbrev pub most_work : ℕ → BlockMap → ℕ
most_work n map = 2048 + n + 64 * length map.ranges + mapped_bytes map / 512

-- by the map that is said, and none where there is no map
abbrev pub work_said : ℕ → Result MapSource SourceFault → ℕ
work_said n (Ok source) = most_work n source.map
work_said n (Err refusal) = 0

-- some map bounds the work
pub record IsBounded (n : ℕ) (old new : Meter) : Type 0 where
  pub map : BlockMap
  pub holds : IsMap map
  pub costs : CostsOn Target (most_work n map) old new
