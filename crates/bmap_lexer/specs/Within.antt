-- What is read at the front of a text lies within the text.
use Rattle.std.specs.Prelude.{ℕ, ◌+◌, ◌<◌, ◌≤◌, List, length}
use Rattle.bmap_grammar.specs.declared.items.Held.{Held}
use Rattle.bmap_grammar.specs.declared.items.Item.{Item}
use Rattle.bmap_grammar.specs.declared.items.Item.TheVariants.{Checksum}
use Rattle.bmap_grammar.specs.declared.items.Piece.{Piece}

-- a value lies in its part, and the part in the text
abbrev pub IsWithin : List ℕ → Held → Type 0
IsWithin text h = (h.at + h.count ≤ h.len) × (h.len ≤ length text)

-- and that part has at least so many bytes
abbrev pub IsFrom : ℕ → List ℕ → Held → Type 0
IsFrom least text h = (h.at + h.count ≤ h.len) × (h.len ≤ length text) × (least ≤ h.len)

-- the 64 digits of a sum lie in its item
abbrev pub HasRoom : ℕ → Item → Type 0
HasRoom len (Checksum at digest) = at + 64 ≤ len
HasRoom len _ = Unit {0}

-- an item has bytes, which lie in the text
abbrev pub FitsIn : List ℕ → Piece → Type 0
FitsIn text p = (0 < p.len) × (p.len ≤ length text) × HasRoom p.len p.item
