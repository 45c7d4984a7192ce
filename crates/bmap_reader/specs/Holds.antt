-- What holds of everything that stands in a text.
use Rattle.std.specs.Prelude.{◌≡◌, ℕ, ◌+◌, ◌-◌, ◌^◌, ◌<◌, ◌≤◌, List, length, All, IfSome, Ok}
use Rattle.base_fields.specs.Numbers.{IsPowerBetween}
use Rattle.block_map.specs.Maps.{AreRanges, max_ranges}
use Rattle.block_map.specs.declared.maps.Range.{Range}
use Rattle.bmap_grammar.specs.Document.{stood_behind}
use Rattle.bmap_grammar.specs.Items.{AreItems}
use Rattle.bmap_grammar.specs.Stood.{nothing}
use Rattle.bmap_grammar.specs.declared.items.Piece.{Piece}
use Rattle.bmap_grammar.specs.declared.stood.Stood.{Stood}
use Rattle.bmap_grammar.specs.declared.stood.Told.{Told}

-- a block behind each of these has a number
abbrev pub AreBelow : List Range → Type 0
AreBelow ranges = All (λ r. r.last < 2 ^ 64 - 1) ranges

-- values are within their limits, ranges ascend, and the digits of the sum lie in a text of so many bytes
pub record IsStood (n : ℕ) (s : Stood) : Type 0 where
  pub ranges : AreRanges s.ranges
  pub below : AreBelow s.ranges
  pub few : length s.ranges ≤ max_ranges
  pub size : IfSome s.size (λ n. n ≤ 2 ^ 43)
  pub block : IfSome s.block (IsPowerBetween 512 65536)
  pub sum : IfSome s.sum (λ m. m.at + 64 ≤ n)

-- the same of the values of a document
pub record IsTold (n : ℕ) (t : Told) : Type 0 where
  pub size : t.size ≤ 2 ^ 43
  pub block : IsPowerBetween 512 65536 t.block
  pub sum : t.sum.at + 64 ≤ n

-- a text is items, behind which this has stood
abbrev pub HasItems : List ℕ → Stood → Type 0
HasItems text s = (items : List Piece) × AreItems text items × (stood_behind 0 nothing items ≡ Ok s)
