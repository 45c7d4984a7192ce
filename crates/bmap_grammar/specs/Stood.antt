-- Which item may stand where in a bmap 2.0 document, and what has stood behind it.
use Rattle.std.specs.Prelude.{ℕ, ◌+◌, ◌-◌, ◌^◌, ◌&&◌, nat_le, nat_lt, Bool, true, false, not, Option, Some, None}
use Rattle.std.specs.Prelude.{is_some, List, [], ◌∷◌, ◌++◌, length, slice_get, Result, Ok, Err, if◌then◌else◌}
use Rattle.base_fields.specs.Numbers.{is_power_between}
use Rattle.base_fields.specs.Results.{when}
use Rattle.block_map.specs.Maps.{max_ranges}
use Rattle.block_map.specs.declared.maps.Range.{Range}
use Rattle.bmap_grammar.specs.Text.{◌>>=◌}
use Rattle.bmap_grammar.specs.declared.faults.MapFault.{MapFault}
use Rattle.bmap_grammar.specs.declared.faults.MapFault.TheVariants.{BadMap, OtherVersion, OtherDigest}
use Rattle.bmap_grammar.specs.declared.items.Field.{Field}
use Rattle.bmap_grammar.specs.declared.items.Field.TheVariants as field
use Rattle.bmap_grammar.specs.declared.items.Item.{Item}
use Rattle.bmap_grammar.specs.declared.items.Item.TheVariants as item
use Rattle.bmap_grammar.specs.declared.stood.Stage.{Stage}
use Rattle.bmap_grammar.specs.declared.stood.Stage.TheVariants.{Nothing, Front, Inside, Map, Behind}
use Rattle.bmap_grammar.specs.declared.stood.Stood.{Stood}
use Rattle.bmap_grammar.specs.declared.stood.Told.{Told}

-- ---- the parts of a document

abbrev pub is_first : Stage → Bool
is_first Nothing = true
is_first _ = false

abbrev pub is_front : Stage → Bool
is_front Nothing = true
is_front Front = true
is_front _ = false

abbrev pub is_inside : Stage → Bool
is_inside Inside = true
is_inside _ = false

abbrev pub is_map : Stage → Bool
is_map Map = true
is_map _ = false

abbrev pub is_behind : Stage → Bool
is_behind Behind = true
is_behind _ = false

-- white space and comments stand everywhere; no declaration stands behind one
abbrev pub blank_behind : Stage → Stage
blank_behind Nothing = Front
blank_behind Front = Front
blank_behind Inside = Inside
blank_behind Map = Map
blank_behind Behind = Behind

-- nothing has stood
abbrev pub nothing : Stood
nothing = record {
  stage = Nothing;
  size = None;
  block = None;
  blocks = None;
  mapped = None;
  typed = false;
  sum = None;
  begun = false;
  ranges = [];
}

-- ---- elements: each once, outside the block map

abbrev pub may_size : Stood → ℕ → Bool
may_size s n = is_inside s.stage && (not (is_some s.size) && nat_le n (2 ^ 43))

abbrev pub may_block : Stood → ℕ → Bool
may_block s n = is_inside s.stage && (not (is_some s.block) && is_power_between 512 65536 n)

abbrev pub number_stands : ℕ → Stood → Field → ℕ → Result Stood MapFault
number_stands at s field.ImageSize n = when (may_size s n) (record s { size = Some n }) (BadMap at)
number_stands at s field.BlockSize n = when (may_block s n) (record s { block = Some n }) (BadMap at)
number_stands at s field.BlocksCount n =
    when (is_inside s.stage && not (is_some s.blocks)) (record s { blocks = Some n }) (BadMap at)
number_stands at s field.MappedBlocksCount n =
    when (is_inside s.stage && not (is_some s.mapped)) (record s { mapped = Some n }) (BadMap at)

abbrev pub may_type : Stood → Bool
may_type s = is_inside s.stage && not s.typed

abbrev pub sum_stands : ℕ → Stood → ℕ → List ℕ → Result Stood MapFault
sum_stands at s place digest =
    when (is_inside s.stage && not (is_some s.sum)) (record s { sum = Some (record { at = at + place; digest = digest }) })
    (BadMap at)

-- ---- ranges: each begins behind the one before

-- the least block at which a range behind these may begin
abbrev pub block_behind : Option Range → ℕ
block_behind None = 0
block_behind (Some r) = r.last + 1

abbrev pub next_of : List Range → ℕ
next_of ranges = block_behind (slice_get ranges (length ranges - 1))

abbrev pub may_follow : List Range → Range → Bool
may_follow ranges r =
    nat_le (next_of ranges) r.first
    && (nat_le r.first r.last && (nat_lt r.last (2 ^ 64 - 1) && nat_lt (length ranges) max_ranges))

abbrev pub range_stands : ℕ → Stood → Range → Result Stood MapFault
range_stands at s r =
    when (is_map s.stage && may_follow s.ranges r) (record s { ranges = s.ranges ++ r ∷ [] }) (BadMap at)

-- ---- the end: all six elements and the block map have stood

abbrev pub told_of : Stood → Option Told
told_of s = do
  size ← s.size
  block ← s.block
  blocks ← s.blocks
  mapped ← s.mapped
  sum ← s.sum
  Some (record { size = size; block = block; blocks = blocks; mapped = mapped; sum = sum })

abbrev pub may_end : Stood → Bool
may_end s = is_inside s.stage && (s.typed && (s.begun && is_some (told_of s)))

-- ---- each item, where it stands at a place

abbrev pub stands : ℕ → Stood → Item → Result Stood MapFault
stands at s item.Blank = Ok (record s { stage = blank_behind s.stage })
stands at s item.Declaration = when (is_first s.stage) (record s { stage = Front }) (BadMap at)
stands at s item.Start = when (is_front s.stage) (record s { stage = Inside }) (BadMap at)
stands at s item.OtherStart = Err (if is_front s.stage then OtherVersion at else BadMap at)
stands at s (item.Number field n) = number_stands at s field n
stands at s item.ChecksumType = when (may_type s) (record s { typed = true }) (BadMap at)
stands at s item.OtherType = Err (if may_type s then OtherDigest at else BadMap at)
stands at s (item.Checksum place digest) = sum_stands at s place digest
stands at s item.MapStart =
    when (is_inside s.stage && not s.begun) (record s { stage = Map; begun = true }) (BadMap at)
stands at s (item.Range r) = range_stands at s r
stands at s item.MapEnd = when (is_map s.stage) (record s { stage = Inside }) (BadMap at)
stands at s item.End = when (may_end s) (record s { stage = Behind }) (BadMap at)

-- what a text says that ends here
abbrev pub said_by : Stood → Option Told
said_by s = if is_behind s.stage then told_of s else None
