-- When a target has what a map says of it, and why it is refused.
use Rattle.std.specs.Prelude.{◌≡◌, ◌≢◌, ℕ, ◌<◌, ◌≤◌, List, length, take, All, count_by, sum_by, is_some, slice_index_or}
use Rattle.std.specs.Prelude.{Some, IfSome, Result, Ok, Err}
use Rattle.outside.specs.Counts.{Rose}
use Rattle.bench.specs.declared.Dev.TheVariants.{Target}
use Rattle.bench.specs.Meter.{Meter}
use Rattle.block_map.specs.declared.maps.BlockMap.{BlockMap}
use Rattle.block_map.specs.declared.maps.Range.{Range}
use Rattle.block_map.specs.Maps.{digest_in, range_span}
use Rattle.verifier.specs.declared.faults.VerifyFault.{VerifyFault}
use Rattle.verifier.specs.declared.faults.VerifyFault.TheVariants.{TargetTooSmall, TargetDiffers, DeviceFault}

-- how many of these ranges have a digest
abbrev pub digests_among : List Range → ℕ
digests_among ranges = count_by (λ r. is_some r.digest) ranges

-- how many bytes these ranges of a map have
abbrev pub bytes_among : BlockMap → List Range → ℕ
bytes_among m ranges = sum_by (λ r. (range_span m r).len) ranges

-- how many bytes are mapped
abbrev pub mapped_bytes : BlockMap → ℕ
mapped_bytes m = bytes_among m m.ranges

-- the digest of a range, where it has one, is SHA-256 of its bytes in an image
abbrev pub HasOwnDigest : BlockMap → List ℕ → Range → Type 0
HasOwnDigest m bytes r = IfSome r.digest (λ digest. digest ≡ digest_in m bytes r)

-- an image is as long as the map's, and has the digest of each range that has one
pub record IsVerified (m : BlockMap) (bytes : List ℕ) : Type 0 where
  pub long : m.size ≤ length bytes
  pub each : All (HasOwnDigest m bytes) m.ranges

-- the map has this digest of its range k
pub record IsDigestOf (m : BlockMap) (k : ℕ) (digest : List ℕ) : Type 0 where
  pub there : k < length m.ranges
  pub stated : (d : Range) → (slice_index_or m.ranges k d).digest ≡ Some digest

-- this is the digest of the bytes that an image has in range k of the map
abbrev pub IsDigestIn : BlockMap → List ℕ → ℕ → List ℕ → Type 0
IsDigestIn m bytes k digest = (d : Range) → digest ≡ digest_in m bytes (slice_index_or m.ranges k d)

-- range k is the first with a digest that an image doesn't have: the map says `want`, and the image has `got`
pub record IsFirstToDiffer (m : BlockMap) (bytes : List ℕ) (k : ℕ) (want got : List ℕ) : Type 0 where
  pub before : All (HasOwnDigest m bytes) (take k m.ranges)
  pub stated : IsDigestOf m k want
  pub computed : IsDigestIn m bytes k got
  pub other : want ≢ got

-- a difference is the first
abbrev pub IsFirstDifference : BlockMap → List ℕ → VerifyFault → Type 0
IsFirstDifference m bytes (TargetTooSmall has needs) = Unit {0}
IsFirstDifference m bytes (TargetDiffers k want got) = IsFirstToDiffer m bytes k want got
IsFirstDifference m bytes (DeviceFault dev) = Unit {0}

-- a target of n bytes is too small exactly where it is shorter than the map's image, unless a call failed
abbrev pub TellsSize : BlockMap → ℕ → Result ℕ VerifyFault → Type 0
TellsSize m n (Ok count) = m.size ≤ n
TellsSize m n (Err (TargetTooSmall has needs)) = (has ≡ n) × (needs ≡ m.size) × (has < needs)
TellsSize m n (Err (TargetDiffers k want got)) = m.size ≤ n
TellsSize m n (Err (DeviceFault dev)) = Unit {0}

-- why a target isn't verified, also where it isn't told
abbrev pub IsVerifyFault : BlockMap → Meter → Meter → VerifyFault → Type 0
IsVerifyFault m old new (TargetTooSmall has needs) = (needs ≡ m.size) × (has < needs)
IsVerifyFault m old new (TargetDiffers k want got) = IsDigestOf m k want × (want ≢ got)
IsVerifyFault m old new (DeviceFault dev) = (dev ≡ Target) × Rose old.faults.target new.faults.target

-- why a range isn't the one that the map has, with the digest that the map has of it
abbrev pub IsRangeFault : Type 0 → BlockMap → List ℕ → ℕ → List ℕ → Meter → Meter → VerifyFault → Type 0
IsRangeFault told m bytes k want old new (TargetTooSmall has needs) = ⊥
IsRangeFault told m bytes k want old new (TargetDiffers at stated got) =
    (at ≡ k) × (stated ≡ want) × (want ≢ got) × (told → IsDigestIn m bytes k got)
IsRangeFault told m bytes k want old new (DeviceFault dev) = (dev ≡ Target) × Rose old.faults.target new.faults.target
