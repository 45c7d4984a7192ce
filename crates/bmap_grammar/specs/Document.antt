-- The bmap 2.0 documents: which map a text is the document of, and the first reason why it is none.
use Rattle.std.specs.Prelude.{◌≡◌, ℕ, zero, suc, ◌+◌, ◌-◌, nat_eq, nat_le, List, [], ◌∷◌, ◌++◌, length, take, drop}
use Rattle.std.specs.Prelude.{replicate, Option, Some, None, Result, Ok, Err}
use Rattle.std.specs.Int.{div_ceil}
use Rattle.std.specs.Str.{bytes_eq}
use Rattle.sha2.specs.Sha256.{sha256}
use Rattle.base_fields.specs.Results.{◌>>=◌, or_else, when}
use Rattle.block_map.specs.Maps.{blocks_in}
use Rattle.block_map.specs.declared.maps.BlockMap.{BlockMap}
use Rattle.block_map.specs.declared.maps.Range.{Range}
use Rattle.bmap_grammar.specs.Items.{AreItems, piece_of}
use Rattle.bmap_grammar.specs.Stood.{next_of, nothing, said_by, stands}
use Rattle.bmap_grammar.specs.declared.faults.MapFault.{MapFault}
use Rattle.bmap_grammar.specs.declared.faults.MapFault.TheVariants.{BadMap, OtherVersion, OtherDigest, BadCounts, SumDiffers, NoMemory}
use Rattle.bmap_grammar.specs.declared.items.Piece.{Piece}
use Rattle.bmap_grammar.specs.declared.stood.Stood.{Stood}
use Rattle.bmap_grammar.specs.declared.stood.Told.{Told}

-- ---- counts and the sum

abbrev pub same_count : ℕ → ℕ → Result (Unit {0}) MapFault
same_count want got = when (nat_eq want got) tt (BadCounts want got)

abbrev pub enough_blocks : ℕ → ℕ → Result (Unit {0}) MapFault
enough_blocks want got = when (nat_le got want) tt (BadCounts want got)

-- SHA-256 of the text with 64 zeros for the digits of its sum
unfoldable pub sum_of : List ℕ → ℕ → List ℕ
sum_of text at = sha256 (take at text ++ replicate 64 48 ++ drop (at + 64) text)

abbrev pub same_sum : List ℕ → List ℕ → Result (Unit {0}) MapFault
same_sum want got = when (bytes_eq want got) tt (SumDiffers want got)

-- the map of these values and ranges, where the counts and the sum are right
abbrev pub counted : Told → List Range → Result (Unit {0}) MapFault
counted t ranges = do
  all ← same_count t.blocks (div_ceil t.size t.block)
  some ← same_count t.mapped (blocks_in ranges)
  enough_blocks t.blocks (next_of ranges)

abbrev pub map_told : List ℕ → List Range → Told → Result BlockMap MapFault
map_told text ranges t = do
  right ← counted t ranges
  same ← same_sum t.sum.digest (sum_of text t.sum.at)
  Ok (record { size = t.size; block = t.block; ranges = ranges })

-- the map of a text in which this has stood
abbrev pub map_of : List ℕ → Stood → Result BlockMap MapFault
map_of text s = or_else (said_by s) (BadMap (length text)) >>= map_told text s.ranges

-- ---- documents

-- what has stood behind items of which the first begins at a place
abbrev pub stood_behind : ℕ → Stood → List Piece → Result Stood MapFault
stood_behind at s [] = Ok s
stood_behind at s (p ∷ ps) = stands at s p.item >>= λ after. stood_behind (at + p.len) after ps

-- the text is the document of that map: it is items that may stand so, with the counts and the sum as they say
abbrev pub BmapText : List ℕ → BlockMap → Type 0
BmapText text map =
    (items : List Piece) × AreItems text items × ((stood_behind 0 nothing items >>= map_of text) ≡ Ok map)

-- what has stood behind a rest of a text that begins at a place, of which so many bytes are still of an item; or the
-- first item that can't stand
abbrev pub one_then : ℕ → Stood → Option Piece → (Stood → ℕ → Result Stood MapFault) → Result Stood MapFault
one_then at s None rest = Err (BadMap at)
one_then at s (Some p) rest = stands at s p.item >>= λ after. rest after (p.len - 1)

abbrev pub stood_from : ℕ → Stood → ℕ → List ℕ → Result Stood MapFault
stood_from at s n [] = Ok s
stood_from at s (suc n) (b ∷ rest) = stood_from (at + 1) s n rest
stood_from at s zero (b ∷ rest) = one_then at s (piece_of (b ∷ rest)) (λ after n. stood_from (at + 1) after n rest)

-- the map of a text, or why it has none
abbrev pub said : List ℕ → Result BlockMap MapFault
said text = stood_from 0 nothing 0 text >>= map_of text

-- what is answered is wanted, or memory was refused
abbrev pub Refuses : {A : Type 0} → Result A MapFault → MapFault → Type 0
Refuses wanted (BadMap place) = wanted ≡ Err (BadMap place)
Refuses wanted (OtherVersion place) = wanted ≡ Err (OtherVersion place)
Refuses wanted (OtherDigest place) = wanted ≡ Err (OtherDigest place)
Refuses wanted (BadCounts want got) = wanted ≡ Err (BadCounts want got)
Refuses wanted (SumDiffers want got) = wanted ≡ Err (SumDiffers want got)
Refuses wanted NoMemory = Unit {0}

abbrev pub Answers : {A : Type 0} → Result A MapFault → Result A MapFault → Type 0
Answers wanted (Ok got) = wanted ≡ Ok got
Answers wanted (Err fault) = Refuses wanted fault
