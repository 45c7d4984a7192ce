-- A list of chunks of a file expands to an image and its cover.
use Rattle.std.specs.Prelude.{◌≡◌, ℕ, ◌+◌, ◌*◌, ◌<◌, ◌≤◌, List, length, take, drop, slice_index}
use Rattle.std.specs.Int.{div_ceil}
use Rattle.std.specs.List.{AllByRecursion, Any}
use Rattle.base_fields.specs.declared.spans.Span.{Span}
use Rattle.span_cover.specs.Cover.{Meets}
use Rattle.sparse_reader.specs.Tally.{blocks_of}
use Rattle.sparse_reader.specs.declared.chunk.Chunk.{Chunk}
use Rattle.sparse_reader.specs.declared.chunk.ChunkKind.{ChunkKind}
use Rattle.sparse_reader.specs.declared.chunk.ChunkKind.TheVariants.{Raw, Fill, Skip, Crc}
use Rattle.sparse_text.specs.Blocks.{AreWords, block_at, block_span}

-- a list of bytes
abbrev pub AreBytes : List ℕ → Type 0
AreBytes bytes = (k : ℕ) → slice_index bytes k < 256

-- a block of an image is what a chunk of a kind has for it: the bytes that stand for it, or words that are all the
-- chunk's. A don't-care block says nothing, and no other chunk has blocks
abbrev pub IsStoredBy : ChunkKind → List ℕ → ℕ → List ℕ → Type 0
IsStoredBy Raw stored word bytes = stored ≡ bytes
IsStoredBy Fill stored word bytes = AreBytes bytes → AreWords bytes word
IsStoredBy Skip stored word bytes = Unit {0}
IsStoredBy Crc stored word bytes = ⊥

-- each block of a chunk of a file is the image's block of its number; a raw chunk's stand one behind another
abbrev pub HasBlocks : List ℕ → List ℕ → ℕ → Chunk → Type 0
HasBlocks text image block chunk = (i : ℕ) → i < chunk.count →
    IsStoredBy chunk.kind (take block (drop (chunk.at + i * block) text)) chunk.word
    (block_at image block (chunk.first + i))

-- a chunk of this kind says what its blocks are
abbrev pub IsData : ChunkKind → Type 0
IsData Raw = Unit {0}
IsData Fill = Unit {0}
IsData Skip = ⊥
IsData Crc = ⊥

-- a raw or a fill chunk has a block
abbrev pub Stores : ℕ → Chunk → Type 0
Stores b chunk = (chunk.first ≤ b) × (b < chunk.first + chunk.count) × IsData chunk.kind

-- the chunks have as many blocks as the padded image, those of raw and fill chunks are the image's, and each block
-- with a covered offset is in a raw or a fill chunk
pub record ChunksExpand (text image : List ℕ) (cover : List Span) (block : ℕ) (chunks : List Chunk) : Type 0 where
  pub blocks : blocks_of chunks ≡ div_ceil (length image) block
  pub stored : AllByRecursion (HasBlocks text image block) chunks
  pub covered : (b : ℕ) → b < div_ceil (length image) block → Meets cover (block_span block b) → Any (Stores b) chunks
