-- The laws of block maps and of units.
use Rattle.std.specs.Prelude.{◌≡◌, ℕ, ◌+◌, ◌*◌, ◌<◌, ◌≤◌, ◌↔◌, Bool, List, [], length, slice_index_or, All, AllPairs}
use Rattle.std.specs.Int.{div_ceil}
use Rattle.base_fields.specs.declared.spans.Span.{Span}
use Rattle.span_cover.specs.Cover.{covers, has}
use Rattle.block_map.specs.declared.maps.BlockMap.{BlockMap}
use Rattle.block_map.specs.declared.maps.Range.{Range}
use Rattle.block_map.specs.Maps.{HasDigestSet, IsBareMapOf, IsMap, IsMapOf, IsMapTo, digest_in, is_mapped, range_span}
use Rattle.block_map.specs.Units.{units_by_range, units_of}

-- a map's last blocks begin below the size exactly where their numbers are below the block count, the size in blocks
-- rounded up
abbrev pub BelowTheCount : Type 0
BelowTheCount = (last size block : ℕ) → 0 < block → (last * block < size) ↔ (last < div_ceil size block)

-- a map without digests, of which the digest of each range is set in turn, becomes the map of the image
abbrev pub DigestsBegin : Type 0
DigestsBegin = (spans : List Span) (bytes : List ℕ) (block : ℕ) (m : BlockMap) →
    IsBareMapOf spans (length bytes) block m → IsMapTo spans bytes block 0 m

abbrev pub DigestsGoOn : Type 0
DigestsGoOn = (spans : List Span) (bytes : List ℕ) (block k : ℕ) (old new : BlockMap) (d : Range) →
    IsMapTo spans bytes block k old → k < length old.ranges →
    HasDigestSet old k (digest_in old bytes (slice_index_or old.ranges k d)) new → IsMapTo spans bytes block (k + 1) new

abbrev pub DigestsEnd : Type 0
DigestsEnd = (spans : List Span) (bytes : List ℕ) (block : ℕ) (m : BlockMap) →
    IsMapTo spans bytes block (length m.ranges) m → IsMapOf spans bytes block m

-- an image in which these spans are covered has one map
abbrev pub OneMap : Type 0
OneMap = (spans : List Span) (bytes : List ℕ) (block : ℕ) (m n : BlockMap) →
    IsMapOf spans bytes block m → IsMapOf spans bytes block n → m ≡ n

-- offsets cut into spans: none is empty or larger than a unit, they ascend and don't meet, and together they are the
-- offsets
pub record AreCutFrom (unit : ℕ) (inside : ℕ → Bool) (cut : List Span) : Type 0 where
  pub filled : All (λ s. 0 < s.len) cut
  pub most : All (λ s. s.len ≤ unit) cut
  pub ascend : AllPairs (λ s later. s.at + s.len ≤ later.at) cut
  pub exact : (o : ℕ) → covers cut o ≡ inside o

-- the units of a map are its mapped bytes, and those of a range are the range's
abbrev pub UnitsAreMapped : Type 0
UnitsAreMapped = (m : BlockMap) (unit : ℕ) → IsMap m → 0 < unit → AreCutFrom unit (is_mapped m) (units_of m unit)

abbrev pub RangesAreCut : Type 0
RangesAreCut = (m : BlockMap) (unit r : ℕ) (d : Range) → 0 < unit → r < length m.ranges →
    AreCutFrom unit (has (range_span m (slice_index_or m.ranges r d))) (slice_index_or (units_by_range m unit) r [])
