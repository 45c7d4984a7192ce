-- What is read of the sparse file of an image: the chunk of each run of blocks.
use Rattle.std.specs.Prelude.{ℕ, ◌+◌, ◌%◌, ◌^◌, List, [], ◌∷◌, length, count_by}
use Rattle.std.specs.Int.{div_ceil}
use Rattle.sparse_reader.specs.Chunks.{data_len}
use Rattle.sparse_reader.specs.Tally.{is_kind}
use Rattle.sparse_reader.specs.declared.chunk.Chunk.{Chunk}
use Rattle.sparse_reader.specs.declared.chunk.ChunkKind.{ChunkKind}
use Rattle.sparse_reader.specs.declared.chunk.ChunkKind.TheVariants as kind
use Rattle.sparse_reader.specs.declared.header.Header.{Header}
use Rattle.sparse_reader.specs.declared.view.SparseView.{SparseView}
use Rattle.sparse_text.specs.Text.{kind_in}
use Rattle.sparse_text.specs.declared.runs.Content.{Content}
use Rattle.sparse_text.specs.declared.runs.Content.TheVariants.{Skip, Fill, Raw}
use Rattle.sparse_text.specs.declared.runs.Run.{Run}

-- the word of a chunk of blocks of a content, as its 4 bytes hold it; a word of bytes is below 2^32
abbrev pub word_of : Content → ℕ
word_of Skip = 0
word_of (Fill word) = word % 2 ^ 32
word_of Raw = 0

-- how many bytes of data the chunk of a run has
abbrev pub data_size : ℕ → Run → ℕ
data_size block r = data_len (kind_in r.content) block r.count

-- the chunk of a run, where its header stands at an offset
abbrev pub chunk_of : ℕ → Run → Chunk
chunk_of at r = record {
  kind = kind_in r.content;
  first = r.first;
  count = r.count;
  at = at + 12;
  word = word_of r.content;
}

-- the chunks of runs, end to end from an offset on
abbrev pub chunks_of : ℕ → ℕ → List Run → List Chunk
chunks_of block at [] = []
chunks_of block at (r ∷ rest) = chunk_of at r ∷ chunks_of block (at + (12 + data_size block r)) rest

-- the header of the sparse file of an image
abbrev pub header_for : List ℕ → ℕ → List Run → Header
header_for image block runs = record { block = block; blocks = div_ceil (length image) block; chunks = length runs }

-- how many of the runs are chunks of a kind
abbrev pub runs_of : ChunkKind → List Run → ℕ
runs_of kind runs = count_by (λ r. is_kind kind (kind_in r.content)) runs

-- what the file has: the padded image's blocks, a chunk for each run, and no CRC chunk
abbrev pub view_for : List ℕ → ℕ → List Run → SparseView
view_for image block runs = record {
  block = block;
  blocks = div_ceil (length image) block;
  chunks = length runs;
  raw = runs_of kind.Raw runs;
  fill = runs_of kind.Fill runs;
  skip = runs_of kind.Skip runs;
  crc = 0;
}
