-- The chunks of a sparse file: each a header of 12 bytes and its data, end to end behind the file's header.
use Rattle.std.specs.Prelude.{◌≡◌, ℕ, zero, suc, ◌+◌, ◌-◌, ◌*◌, ◌^◌, ◌≤◌, ◌==◌, Bool, true, ◌&&◌, List, [], ◌∷◌, Option, None, Some, Result, Ok, if◌then◌else◌}
use Rattle.byteorder.specs.Endian.{little_number}
use Rattle.base_fields.specs.Results.{◌>>=◌, or_else}
use Rattle.sparse_reader.specs.Header.{number_in, part_of}
use Rattle.sparse_reader.specs.declared.chunk.Chunk.{Chunk}
use Rattle.sparse_reader.specs.declared.chunk.ChunkKind.{ChunkKind}
use Rattle.sparse_reader.specs.declared.chunk.ChunkKind.TheVariants.{Raw, Fill, Skip, Crc}
use Rattle.sparse_reader.specs.declared.chunk.Cursor.{Cursor}
use Rattle.sparse_reader.specs.declared.chunk.Tag.{Tag}
use Rattle.sparse_reader.specs.declared.fault.SparseFault.{SparseFault}
use Rattle.sparse_reader.specs.declared.fault.SparseFault.TheVariants.{BadChunk}

-- ---- a chunk's header

-- the kind of a type's number
abbrev pub kind_of : ℕ → Option ChunkKind
kind_of n =
    if n == 0xCAC1 then Some Raw
    else if n == 0xCAC2 then Some Fill
    else if n == 0xCAC3 then Some Skip
    else if n == 0xCAC4 then Some Crc
    else None

-- how many bytes of data a chunk has, by its kind, the block size and its blocks
abbrev pub data_len : ChunkKind → ℕ → ℕ → ℕ
data_len Raw block count = count * block
data_len Fill block count = 4
data_len Skip block count = 0
data_len Crc block count = 4

-- a CRC chunk has no blocks
abbrev pub may_have : ChunkKind → ℕ → Bool
may_have Crc count = count == 0
may_have kind count = true

-- a chunk with a kind, where its total is 12 and its data
abbrev pub tag_with : ℕ → ℕ → ℕ → Option ChunkKind → Option Tag
tag_with block count total None = None
tag_with block count total (Some kind) =
    if may_have kind count && (total == 12 + data_len kind block count) then Some (record { kind = kind; count = count }) else None

-- the chunk that these 12 bytes say: type at 0, blocks at 4, total at 8; the field at 2 isn't looked at
abbrev pub tag_in : ℕ → List ℕ → Option Tag
tag_in block head = tag_with block (number_in head 4 4) (number_in head 8 4) (kind_of (number_in head 0 2))

-- ---- a chunk of a file

-- the word of a fill chunk, else 0
abbrev pub word_in : ChunkKind → List ℕ → ℕ
word_in Fill bytes = little_number 4 bytes
word_in kind bytes = 0

-- the word of a chunk whose data stands at an offset
abbrev pub word_at : List ℕ → ℕ → ℕ → Tag → Result ℕ SparseFault
word_at bytes block at tag = part_of bytes at (data_len tag.kind block tag.count) >>= λ bytes. Ok (word_in tag.kind bytes)

abbrev pub chunk_with : Cursor → Tag → ℕ → Chunk
chunk_with c tag word = record { kind = tag.kind; first = c.block; count = tag.count; at = c.at + 12; word = word }

-- the chunk at a cursor, or why there is none
abbrev pub chunk_at : List ℕ → ℕ → Cursor → Result Chunk SparseFault
chunk_at bytes block c = do
  head ← part_of bytes c.at 12
  tag ← or_else (tag_in block head) (BadChunk c.chunk)
  word ← word_at bytes block (c.at + 12) tag
  Ok (chunk_with c tag word)

-- the cursor of the first chunk, and the one behind a chunk
abbrev pub start : Cursor
start = record { chunk = 0; at = 28; block = 0 }

abbrev pub behind : ℕ → Cursor → Chunk → Cursor
behind block c chunk = record {
  chunk = c.chunk + 1;
  at = chunk.at + data_len chunk.kind block chunk.count;
  block = c.block + chunk.count;
}

-- how far a cursor can be: a chunk has a total and blocks of 32 bits
pub record IsCursor (c : Cursor) : Type 0 where
  pub at : c.at ≤ 28 + c.chunk * (2 ^ 32 - 1)
  pub block : c.block ≤ c.chunk * (2 ^ 32 - 1)

-- ---- the chunks of a file

-- these chunks stand end to end from a cursor on
abbrev pub AreChunks : List ℕ → ℕ → Cursor → List Chunk → Type 0
AreChunks bytes block c [] = Unit {0}
AreChunks bytes block c (chunk ∷ rest) = (chunk_at bytes block c ≡ Ok chunk) × AreChunks bytes block (behind block c chunk) rest

-- so many chunks from a cursor on, or the first refusal
unfoldable pub chunks_from : List ℕ → ℕ → ℕ → Cursor → Result (List Chunk) SparseFault
chunks_from bytes block zero c = Ok []
chunks_from bytes block (suc n) c = do
  chunk ← chunk_at bytes block c
  rest ← chunks_from bytes block n (behind block c chunk)
  Ok (chunk ∷ rest)

-- the cursor behind chunks
abbrev pub cursor_after : ℕ → Cursor → List Chunk → Cursor
cursor_after block c [] = c
cursor_after block c (chunk ∷ rest) = cursor_after block (behind block c chunk) rest
