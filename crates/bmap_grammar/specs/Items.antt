-- The items of a bmap 2.0 document: which one stands at the front of a text, and how long it is.
use Rattle.std.specs.Prelude.{◌≡◌, ℕ, ◌+◌, ◌<◌, ◌≤◌, nat_lt, List, [], ◌∷◌, length, drop, codes, Option, Some, None, option_map}
use Rattle.std.specs.Prelude.{if◌then◌else◌}
use Rattle.std.specs.Str.{bytes_eq}
use Rattle.block_map.specs.declared.maps.Range.{Range}
use Rattle.bmap_grammar.specs.Text.{◌>>=◌, begins, blocks_of, digest_of, element_of, framed, moved, number_of}
use Rattle.bmap_grammar.specs.Text.{or_next, spaces, tag_len, tag_with, value_in, valued}
use Rattle.bmap_grammar.specs.declared.items.Field.{Field}
use Rattle.bmap_grammar.specs.declared.items.Field.TheVariants as field
use Rattle.bmap_grammar.specs.declared.items.Head.{Head}
use Rattle.bmap_grammar.specs.declared.items.Held.{Held}
use Rattle.bmap_grammar.specs.declared.items.Item.{Item}
use Rattle.bmap_grammar.specs.declared.items.Item.TheVariants as item
use Rattle.bmap_grammar.specs.declared.items.Piece.{Piece}

-- an item of so many bytes
abbrev pub sized : Item → ℕ → Piece
sized i n = record { item = i; len = n }

-- a run of white space
abbrev pub space_at : List ℕ → Option Piece
space_at text = if nat_lt 0 (spaces text) then Some (sized item.Blank (spaces text)) else None

-- a comment, from `<!--` to the next `-->`
unfoldable pub comment_at : List ℕ → Option Piece
comment_at text = option_map (sized item.Blank) (framed (codes "<!--") (codes "-->") text)

-- a declaration, from `<?xml` to the next `?>`
unfoldable pub declaration_at : List ℕ → Option Piece
declaration_at text = option_map (sized item.Declaration) (framed (codes "<?xml") (codes "?>") text)

-- the opening tag of a document, whose version is 2.0 or another
abbrev pub start_item : List ℕ → Item
start_item version = if bytes_eq version (codes "2.0") then item.Start else item.OtherStart

unfoldable pub start_at : List ℕ → Option Piece
start_at text = option_map (λ h. sized (start_item (value_in text h)) h.len) (tag_with (codes "<bmap version") text)

-- the closing tag of a document, and the tags of its block map
unfoldable pub end_at : List ℕ → Option Piece
end_at text = option_map (sized item.End) (tag_len (codes "</bmap") text)

unfoldable pub map_start_at : List ℕ → Option Piece
map_start_at text = option_map (sized item.MapStart) (tag_len (codes "<BlockMap") text)

unfoldable pub map_end_at : List ℕ → Option Piece
map_end_at text = option_map (sized item.MapEnd) (tag_len (codes "</BlockMap") text)

-- an element whose value is a number
abbrev pub number_in : Field → List ℕ → Held → Option Piece
number_in field text h = option_map (λ n. sized (item.Number field n) h.len) (number_of (value_in text h))

abbrev pub number_at : Field → List ℕ → List ℕ → List ℕ → Option Piece
number_at field opening closing text = element_of opening closing text >>= number_in field text

unfoldable pub image_size_at : List ℕ → Option Piece
image_size_at text = number_at field.ImageSize (codes "<ImageSize") (codes "</ImageSize") text

unfoldable pub block_size_at : List ℕ → Option Piece
block_size_at text = number_at field.BlockSize (codes "<BlockSize") (codes "</BlockSize") text

unfoldable pub blocks_count_at : List ℕ → Option Piece
blocks_count_at text = number_at field.BlocksCount (codes "<BlocksCount") (codes "</BlocksCount") text

unfoldable pub mapped_count_at : List ℕ → Option Piece
mapped_count_at text =
    number_at field.MappedBlocksCount (codes "<MappedBlocksCount") (codes "</MappedBlocksCount") text

-- the element that names the digest, SHA-256 or another
abbrev pub type_item : List ℕ → Item
type_item name = if bytes_eq name (codes "sha256") then item.ChecksumType else item.OtherType

unfoldable pub type_at : List ℕ → Option Piece
type_at text =
    option_map (λ h. sized (type_item (value_in text h)) h.len)
    (element_of (codes "<ChecksumType") (codes "</ChecksumType") text)

-- the element with the text's sum
abbrev pub sum_in : List ℕ → Held → Option Piece
sum_in text h = option_map (λ digest. sized (item.Checksum h.at digest) h.len) (digest_of (value_in text h))

unfoldable pub sum_at : List ℕ → Option Piece
sum_at text = element_of (codes "<BmapFileChecksum") (codes "</BmapFileChecksum") text >>= sum_in text

-- the opening tag of a range without a digest
unfoldable pub bare_head : List ℕ → Option Head
bare_head text = option_map (λ n. record { digest = None; len = n }) (tag_len (codes "<Range") text)

-- and that of one with a digest: behind white space the attribute
abbrev pub digest_in : List ℕ → Held → Option Head
digest_in text h = option_map (λ digest. record { digest = Some digest; len = h.len }) (digest_of (value_in text h))

abbrev pub spaced_sum : List ℕ → Option Held
spaced_sum text =
    if nat_lt 0 (spaces text) then moved (spaces text) (tag_with (codes "chksum") (drop (spaces text) text)) else None

unfoldable pub digest_head : List ℕ → Option Head
digest_head text =
    if begins text (codes "<Range") then moved 6 (spaced_sum (drop 6 text)) >>= digest_in text else None

-- a range: its opening tag, its blocks, its closing tag
abbrev pub range_with : Head → Held → (ℕ × ℕ) → Piece
range_with head h blocks =
    sized (item.Range (record { first = blocks.0; last = blocks.1; digest = head.digest })) (head.len + h.len)

abbrev pub blocks_in : List ℕ → Head → Held → Option Piece
blocks_in text head h = option_map (range_with head h) (blocks_of (value_in text h))

unfoldable pub range_behind : List ℕ → Head → Option Piece
range_behind text head = valued (codes "</Range") text >>= blocks_in text head

abbrev pub range_at : List ℕ → Option Piece
range_at text = or_next (bare_head text) (digest_head text) >>= λ head. range_behind (drop head.len text) head

-- the item at the front of a text: no text begins with two of them
abbrev pub blank_at : List ℕ → Option Piece
blank_at text = or_next (space_at text) (or_next (comment_at text) (declaration_at text))

abbrev pub tag_at : List ℕ → Option Piece
tag_at text = or_next (start_at text) (or_next (end_at text) (or_next (map_start_at text) (map_end_at text)))

abbrev pub count_at : List ℕ → Option Piece
count_at text =
    or_next (image_size_at text) (or_next (block_size_at text) (or_next (blocks_count_at text) (mapped_count_at text)))

abbrev pub element_at : List ℕ → Option Piece
element_at text = or_next (range_at text) (or_next (count_at text) (or_next (type_at text) (sum_at text)))

abbrev pub piece_of : List ℕ → Option Piece
piece_of text = or_next (blank_at text) (or_next (tag_at text) (element_at text))

-- the text is these items, one behind another: each has bytes, and they are the text's
abbrev pub IsAtFront : List ℕ → Piece → Type 0
IsAtFront text p = (piece_of text ≡ Some p) × (0 < p.len) × (p.len ≤ length text)

abbrev pub AreItems : List ℕ → List Piece → Type 0
AreItems text [] = text ≡ []
AreItems text (p ∷ ps) = IsAtFront text p × AreItems (drop p.len text) ps
