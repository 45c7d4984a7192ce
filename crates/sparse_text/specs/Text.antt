-- The sparse file of an image: a header, and a chunk for each maximal run of blocks.
use Rattle.std.specs.Prelude.{◌≡◌, ℕ, ◌+◌, ◌*◌, ◌/◌, ◌^◌, List, [], ◌∷◌, ◌++◌, length, take, drop, flat_map}
use Rattle.std.specs.Int.{div_ceil}
use Rattle.byteorder.specs.Endian.{little_bytes}
use Rattle.base_fields.specs.declared.spans.Span.{Span}
use Rattle.base_fields.specs.Fields.{Field, joined, number}
use Rattle.sparse_reader.specs.Chunks.{data_len}
use Rattle.sparse_reader.specs.declared.chunk.ChunkKind.{ChunkKind}
use Rattle.sparse_reader.specs.declared.chunk.ChunkKind.TheVariants as kind
use Rattle.sparse_text.specs.Blocks.{IsContent, padded}
use Rattle.sparse_text.specs.Runs.{AreRuns}
use Rattle.sparse_text.specs.declared.runs.Content.{Content}
use Rattle.sparse_text.specs.declared.runs.Content.TheVariants.{Skip, Fill, Raw}
use Rattle.sparse_text.specs.declared.runs.Run.{Run}

-- the kind of a chunk, and its number
abbrev pub kind_in : Content → ChunkKind
kind_in Skip = kind.Skip
kind_in (Fill word) = kind.Fill
kind_in Raw = kind.Raw

abbrev pub kind_number : Content → ℕ
kind_number Skip = 0xCAC3
kind_number (Fill word) = 0xCAC2
kind_number Raw = 0xCAC1

-- a chunk's header of 12 bytes: its type, 0, its blocks, and its bytes in all
abbrev pub tag_fields : ℕ → Content → ℕ → List Field
tag_fields block content count =
    number 0 2 (kind_number content) ∷ number 2 2 0 ∷ number 4 4 count ∷ number 8 4 (12 + data_len (kind_in content) block count) ∷ []

abbrev pub tag_text : ℕ → Content → ℕ → List ℕ
tag_text block content count = joined (tag_fields block content count)

-- what stands behind it: the blocks, their one word, or nothing
abbrev pub data_of : List ℕ → ℕ → ℕ → ℕ → Content → List ℕ
data_of image block first count Skip = []
data_of image block first count (Fill word) = little_bytes 4 word
data_of image block first count Raw = take (count * block) (drop (first * block) (padded image block))

abbrev pub chunk_text : List ℕ → ℕ → Run → List ℕ
chunk_text image block r = tag_text block r.content r.count ++ data_of image block r.first r.count r.content

-- the header of 28 bytes: the magic, the version 1.0, the bytes of the two headers, of a block, the blocks, the chunks,
-- and no checksum
abbrev pub header_fields : ℕ → ℕ → ℕ → List Field
header_fields block blocks chunks =
    number 0 4 0xED26FF3A ∷ number 4 2 1 ∷ number 6 2 0 ∷ number 8 2 28 ∷ number 10 2 12 ∷ number 12 4 block ∷ number 16 4 blocks
    ∷ number 20 4 chunks ∷ number 24 4 0 ∷ []

abbrev pub header_text : ℕ → ℕ → ℕ → List ℕ
header_text block blocks chunks = joined (header_fields block blocks chunks)

-- the most blocks of a raw chunk
abbrev pub most_raw : ℕ → ℕ
most_raw block = 2 ^ 30 / block

-- the chunks of an image of so many blocks
abbrev pub AreRunsOf : List ℕ → List Span → ℕ → ℕ → List Run → Type 0
AreRunsOf image cover block blocks runs = AreRuns (IsContent image cover block) (most_raw block) 0 blocks runs

abbrev pub text_of : List ℕ → ℕ → ℕ → List Run → List ℕ
text_of image block blocks runs = header_text block blocks (length runs) ++ flat_map (λ r. chunk_text image block r) runs

-- the sparse file of an image and of the offsets that count, in blocks of a size
abbrev pub IsSparseText : List ℕ → List Span → ℕ → List ℕ → Type 0
IsSparseText image cover block text =
    (runs : List Run) × AreRunsOf image cover block (div_ceil (length image) block) runs
    × (text ≡ text_of image block (div_ceil (length image) block) runs)
