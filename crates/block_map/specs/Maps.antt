-- Block maps: what holds of each, and the one that a set of offsets and the bytes of an image have.
use Rattle.std.specs.Prelude.{◌≡◌, ℕ, ◌+◌, ◌-◌, ◌*◌, ◌/◌, ◌^◌, ◌<◌, ◌≤◌, min, Bool, ◌&&◌, nat_lt, Some, None}
use Rattle.std.specs.Prelude.{List, length, take, drop, map, sum_by, slice_set, slice_index_or, All, AllPairs}
use Rattle.std.specs.List.{flat_map}
use Rattle.std.specs.Int.{div_ceil}
use Rattle.sha2.specs.Sha256.{sha256}
use Rattle.base_fields.specs.Numbers.{IsPowerBetween}
use Rattle.base_fields.specs.declared.spans.Span.{Span}
use Rattle.span_cover.specs.Cover.{AreTouchedRuns, covers}
use Rattle.block_map.specs.declared.maps.BlockMap.{BlockMap}
use Rattle.block_map.specs.declared.maps.Range.{Range}

-- how many ranges a map may have
abbrev pub max_ranges : ℕ
max_ranges = 262144

-- what holds of a block map: its ranges ascend and don't meet, and the last block of each begins below the size
pub record IsMap (m : BlockMap) : Type 0 where
  pub size : m.size ≤ 2 ^ 43
  pub block : IsPowerBetween 512 65536 m.block
  pub few : length m.ranges ≤ max_ranges
  pub filled : All (λ r. r.first ≤ r.last) m.ranges
  pub ascend : AllPairs (λ r later. r.last < later.first) m.ranges
  pub below : All (λ r. r.last * m.block < m.size) m.ranges

-- what holds of the ranges of a map: each has blocks, and begins behind the one before
pub record AreRanges (rs : List Range) : Type 0 where
  pub filled : All (λ r. r.first ≤ r.last) rs
  pub ascend : AllPairs (λ r later. r.last < later.first) rs

-- a range begins behind the last one of these
abbrev pub Follows : List Range → Range → Type 0
Follows rs r = (d : Range) → 0 < length rs → (slice_index_or rs (length rs - 1) d).last < r.first

-- a map has room for this range behind its own
pub record IsNext (m : BlockMap) (r : Range) : Type 0 where
  pub room : length m.ranges < max_ranges
  pub filled : r.first ≤ r.last
  pub follows : Follows m.ranges r
  pub below : r.last * m.block < m.size

-- a range as its first block and how many it has
abbrev pub run_of : Range → Span
run_of r = record { at = r.first; len = r.last + 1 - r.first }

abbrev pub runs_of : BlockMap → List Span
runs_of m = map run_of m.ranges

-- a range's bytes, which end where the image does
abbrev pub range_span : BlockMap → Range → Span
range_span m r = record { at = r.first * m.block; len = min m.size ((r.last + 1) * m.block) - r.first * m.block }

-- range k of a map has these bytes
abbrev pub IsRangeBytes : BlockMap → ℕ → Span → Type 0
IsRangeBytes m k span = (d : Range) → span ≡ range_span m (slice_index_or m.ranges k d)

-- the number of blocks of an image, of which the last one may be shorter
abbrev pub block_count : BlockMap → ℕ
block_count m = div_ceil m.size m.block

-- the number of blocks of ranges
abbrev pub blocks_in : List Range → ℕ
blocks_in rs = sum_by (λ r. r.last + 1 - r.first) rs

-- whether an offset is below the size and in a block of a range
abbrev pub is_mapped : BlockMap → ℕ → Bool
is_mapped m o = nat_lt o m.size && covers (runs_of m) (o / m.block)

-- the map of an image of so many bytes whose ranges are the maximal runs of blocks that have an offset of the spans
-- below the size; its digests may be any
pub record HasRunsOf (spans : List Span) (size block : ℕ) (m : BlockMap) : Type 0 where
  pub same_size : m.size ≡ size
  pub same_block : m.block ≡ block
  pub runs : AreTouchedRuns spans size block (runs_of m)

-- that map with no digest
pub record IsBareMapOf (spans : List Span) (size block : ℕ) (m : BlockMap) : Type 0 where
  pub runs : HasRunsOf spans size block m
  pub bare : All (λ r. r.digest ≡ None) m.ranges

-- the bytes of an image that a span has
abbrev pub part_of : Span → List ℕ → List ℕ
part_of span bytes = take span.len (drop span.at bytes)

-- those that spans have, one behind another
abbrev pub parts_of : List Span → List ℕ → List ℕ
parts_of spans bytes = flat_map (λ span. part_of span bytes) spans

-- the digest of a range's bytes, in an image of these bytes
abbrev pub digest_in : BlockMap → List ℕ → Range → List ℕ
digest_in m bytes r = sha256 (part_of (range_span m r) bytes)

-- a range has that digest
abbrev pub HasDigest : BlockMap → List ℕ → Range → Type 0
HasDigest m bytes r = r.digest ≡ Some (digest_in m bytes r)

-- the map of an image in which these spans are covered: its runs, each range with the digest of its bytes
pub record IsMapOf (spans : List Span) (bytes : List ℕ) (block : ℕ) (m : BlockMap) : Type 0 where
  pub runs : HasRunsOf spans (length bytes) block m
  pub digests : All (HasDigest m bytes) m.ranges

-- the same, as far as the digests of the first ranges go
pub record IsMapTo (spans : List Span) (bytes : List ℕ) (block : ℕ) (k : ℕ) (m : BlockMap) : Type 0 where
  pub runs : HasRunsOf spans (length bytes) block m
  pub digests : All (HasDigest m bytes) (take k m.ranges)

-- the map with this digest for range k, all else as it was
pub record HasDigestSet (old : BlockMap) (k : ℕ) (digest : List ℕ) (new : BlockMap) : Type 0 where
  pub size : new.size ≡ old.size
  pub block : new.block ≡ old.block
  pub ranges : (d : Range) →
      new.ranges ≡ slice_set old.ranges k (record (slice_index_or old.ranges k d) { digest = Some digest })
