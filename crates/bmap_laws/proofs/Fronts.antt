-- Which item stands at the front of each line that is written.
use Rattle.std.proofs.Common.{◌≡◌, ℕ, ◌^◌, ◌<◌, ◌==◌, List, [], ◌∷◌, ◌++◌, length, decimal, codes, Option, Some, None}
use Rattle.std.proofs.Common.{ap, arith, lt-ltb, nat_lt, option_map, position, refl, true, ◌∙◌}
use Rattle.hex.specs.Hex.{encode_lower}
use Rattle.bmap_grammar.specs.Items.{bare_head, blank_at, block_size_at, blocks_count_at, comment_at, count_at, declaration_at}
use Rattle.bmap_grammar.specs.Items.{digest_head, element_at, end_at, image_size_at, map_end_at, map_start_at, mapped_count_at, piece_of}
use Rattle.bmap_grammar.specs.Items.{range_at, sized, start_at, start_item, sum_at, tag_at, type_at}
use Rattle.bmap_grammar.specs.Text.{◌>>=◌, between_quotes, ended, is_space, moved, or_next, spaces, value_in}
use Rattle.bmap_grammar.specs.declared.items.Field.TheVariants as field
use Rattle.bmap_grammar.specs.declared.items.Held.{Held}
use Rattle.bmap_grammar.specs.declared.items.Item.TheVariants as item
use Rattle.bmap_grammar.specs.declared.items.Piece.{Piece}
use Rattle.bmap_laws.specs.Digests.{IsDigest}
use Rattle.bmap_laws.proofs.Bytes.{Pass, found, run_ends}
use Rattle.bmap_laws.proofs.Elements.{block_found, block_tag, count_found, count_tag, mapped_found, mapped_tag, size_found, size_tag}
use Rattle.bmap_laws.proofs.Elements.{sum_found, sum_tag, type_found, type_tag}

-- ---- white space

pub space_found : (text : List ℕ) (k : ℕ) → 0 < k → spaces text ≡ k → piece_of text ≡ Some (sized item.Blank k)
space_found text k some h =
    let there : nat_lt 0 k ≡ true = lt-ltb 0 k some in
    rw h (rw there refl)

pub blank_piece : (blank tail : List ℕ) → Pass is_space blank →
    piece_of (10 ∷ (blank ++ 60 ∷ tail)) ≡ Some (sized item.Blank (length (10 ∷ blank)))
blank_piece blank tail h =
    space_found (10 ∷ (blank ++ 60 ∷ tail)) (length (10 ∷ blank)) (omega arith)
    (run_ends is_space (10 ∷ blank) 60 tail (refl, h) refl)

pub end_blank : piece_of (10 ∷ []) ≡ Some (sized item.Blank 1)
end_blank = space_found (10 ∷ []) 1 (omega arith) refl

-- ---- the tags

pub declaration_piece : (rest : List ℕ) →
    piece_of (codes "<?xml version=\"1.0\" ?>" ++ rest) ≡ Some (sized item.Declaration 22)
unfolding comment_at declaration_at
declaration_piece rest = refl

start_found : (rest : List ℕ) → start_at (codes "<bmap version=\"2.0\">" ++ rest) ≡ Some (sized item.Start 20)
unfolding start_at
start_found rest =
    let text : List ℕ = codes "<bmap version=\"2.0\">" ++ rest in
    let place : position (λ b. b == 34) (codes "2.0" ++ 34 ∷ 62 ∷ rest) ≡ Some 3 =
    found (λ b. b == 34) (codes "2.0") 34 (62 ∷ rest) (refl, (refl, (refl, tt))) refl in
    let held : Option ℕ → Option Held =
    λ o. moved 13 (moved 0 (moved 1 (moved 0 (option_map between_quotes o)))) >>= ended text in
    ap (λ (o : Option ℕ). option_map (λ h. sized (start_item (value_in text h)) h.len) (held o)) place

start_first : (rest : List ℕ) (p : Piece) → start_at (codes "<bmap version" ++ rest) ≡ Some p →
    piece_of (codes "<bmap version" ++ rest) ≡ Some p
unfolding comment_at declaration_at
start_first rest p h = rw h refl

pub start_piece : (rest : List ℕ) → piece_of (codes "<bmap version=\"2.0\">" ++ rest) ≡ Some (sized item.Start 20)
start_piece rest = start_first (codes "=\"2.0\">" ++ rest) (sized item.Start 20) (start_found rest)

pub map_start_piece : (rest : List ℕ) → piece_of (codes "<BlockMap>" ++ rest) ≡ Some (sized item.MapStart 10)
unfolding comment_at declaration_at start_at end_at map_start_at
map_start_piece rest = refl

pub map_end_piece : (rest : List ℕ) → piece_of (codes "</BlockMap>" ++ rest) ≡ Some (sized item.MapEnd 11)
unfolding comment_at declaration_at start_at end_at map_start_at map_end_at
map_end_piece rest = refl

pub end_piece : (rest : List ℕ) → piece_of (codes "</bmap>" ++ rest) ≡ Some (sized item.End 7)
unfolding comment_at declaration_at start_at end_at
end_piece rest = refl

-- ---- ranges

no_blank_range : (rest : List ℕ) → blank_at (codes "<Range" ++ rest) ≡ None
unfolding comment_at declaration_at
no_blank_range rest = refl

no_tag_range : (rest : List ℕ) → tag_at (codes "<Range" ++ rest) ≡ None
unfolding start_at end_at map_start_at map_end_at
no_tag_range rest = refl

element_first : (text : List ℕ) (p : Piece) → blank_at text ≡ None → tag_at text ≡ None → element_at text ≡ Some p →
    piece_of text ≡ Some p
element_first text p blank tag h =
    ap (λ (o : Option Piece). or_next o (or_next (tag_at text) (element_at text))) blank
    ∙ (ap (λ (o : Option Piece). or_next o (element_at text)) tag ∙ h)

pub range_first : (rest : List ℕ) (p : Piece) → range_at (codes "<Range" ++ rest) ≡ Some p →
    piece_of (codes "<Range" ++ rest) ≡ Some p
range_first rest p h =
    let text : List ℕ = codes "<Range" ++ rest in
    element_first text p (no_blank_range rest) (no_tag_range rest)
    (ap (λ (o : Option Piece). or_next o (or_next (count_at text) (or_next (type_at text) (sum_at text)))) h)

-- ---- the elements

-- what doesn't stand at the front of an element
tags : Unit {0}
unfolding comment_at declaration_at start_at end_at map_start_at map_end_at bare_head digest_head
tags = tt

numbers : Unit {0}
unfolding image_size_at block_size_at blocks_count_at mapped_count_at
numbers = tt

size_first : (rest : List ℕ) (p : Piece) → image_size_at (codes "<ImageSize" ++ rest) ≡ Some p →
    piece_of (codes "<ImageSize" ++ rest) ≡ Some p
unfolding tags
size_first rest p h = rw h refl

pub size_piece : (n : ℕ) (rest : List ℕ) → n < 2 ^ 64 →
    piece_of (size_tag (decimal n) ++ rest)
    ≡ Some (sized (item.Number field.ImageSize n) (length (size_tag (decimal n))))
size_piece n rest h =
    size_first (codes "> " ++ ((decimal n ++ codes " </ImageSize>") ++ rest))
    (sized (item.Number field.ImageSize n) (length (size_tag (decimal n)))) (size_found n rest h)

block_first : (rest : List ℕ) (p : Piece) → block_size_at (codes "<BlockSize" ++ rest) ≡ Some p →
    piece_of (codes "<BlockSize" ++ rest) ≡ Some p
unfolding tags image_size_at
block_first rest p h = rw h refl

pub block_piece : (n : ℕ) (rest : List ℕ) → n < 2 ^ 64 →
    piece_of (block_tag (decimal n) ++ rest)
    ≡ Some (sized (item.Number field.BlockSize n) (length (block_tag (decimal n))))
block_piece n rest h =
    block_first (codes "> " ++ ((decimal n ++ codes " </BlockSize>") ++ rest))
    (sized (item.Number field.BlockSize n) (length (block_tag (decimal n)))) (block_found n rest h)

count_first : (rest : List ℕ) (p : Piece) → blocks_count_at (codes "<BlocksCount" ++ rest) ≡ Some p →
    piece_of (codes "<BlocksCount" ++ rest) ≡ Some p
unfolding tags image_size_at block_size_at
count_first rest p h = rw h refl

pub count_piece : (n : ℕ) (rest : List ℕ) → n < 2 ^ 64 →
    piece_of (count_tag (decimal n) ++ rest)
    ≡ Some (sized (item.Number field.BlocksCount n) (length (count_tag (decimal n))))
count_piece n rest h =
    count_first (codes "> " ++ ((decimal n ++ codes " </BlocksCount>") ++ rest))
    (sized (item.Number field.BlocksCount n) (length (count_tag (decimal n)))) (count_found n rest h)

mapped_first : (rest : List ℕ) (p : Piece) → mapped_count_at (codes "<MappedBlocksCount" ++ rest) ≡ Some p →
    piece_of (codes "<MappedBlocksCount" ++ rest) ≡ Some p
unfolding tags image_size_at block_size_at blocks_count_at
mapped_first rest p h = rw h refl

pub mapped_piece : (n : ℕ) (rest : List ℕ) → n < 2 ^ 64 →
    piece_of (mapped_tag (decimal n) ++ rest)
    ≡ Some (sized (item.Number field.MappedBlocksCount n) (length (mapped_tag (decimal n))))
mapped_piece n rest h =
    mapped_first (codes "> " ++ ((decimal n ++ codes " </MappedBlocksCount>") ++ rest))
    (sized (item.Number field.MappedBlocksCount n) (length (mapped_tag (decimal n)))) (mapped_found n rest h)

type_first : (rest : List ℕ) (p : Piece) → type_at (codes "<ChecksumType" ++ rest) ≡ Some p →
    piece_of (codes "<ChecksumType" ++ rest) ≡ Some p
unfolding tags numbers
type_first rest p h = rw h refl

pub type_piece : (rest : List ℕ) → piece_of (type_tag ++ rest) ≡ Some (sized item.ChecksumType (length type_tag))
type_piece rest =
    type_first (codes "> sha256 </ChecksumType>" ++ rest) (sized item.ChecksumType (length type_tag)) (type_found rest)

sum_first : (rest : List ℕ) (p : Piece) → sum_at (codes "<BmapFileChecksum" ++ rest) ≡ Some p →
    piece_of (codes "<BmapFileChecksum" ++ rest) ≡ Some p
unfolding tags numbers type_at
sum_first rest p h = rw h refl

pub sum_piece : (digest rest : List ℕ) → IsDigest digest →
    piece_of (sum_tag (encode_lower digest) ++ rest)
    ≡ Some (sized (item.Checksum 19 digest) (length (sum_tag (encode_lower digest))))
sum_piece digest rest h =
    sum_first (codes "> " ++ ((encode_lower digest ++ codes " </BmapFileChecksum>") ++ rest))
    (sized (item.Checksum 19 digest) (length (sum_tag (encode_lower digest)))) (sum_found digest rest h)
