-- The digests of a map.
use Rattle.std.specs.Prelude.{◌≡◌, ℕ, List, length, All, IfSome}
use Rattle.hex.specs.Hex.{IsBytes}
use Rattle.block_map.specs.declared.maps.BlockMap.{BlockMap}
use Rattle.block_map.specs.declared.maps.Range.{Range}

-- a digest is 32 bytes
abbrev pub IsDigest : List ℕ → Type 0
IsDigest digest = (length digest ≡ 32) × IsBytes digest

-- each digest that a range has is one
abbrev pub AreDigests : List Range → Type 0
AreDigests ranges = All (λ r. IfSome r.digest IsDigest) ranges

abbrev pub HasDigests : BlockMap → Type 0
HasDigests m = AreDigests m.ranges
