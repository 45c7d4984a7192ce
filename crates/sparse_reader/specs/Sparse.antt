-- A sparse file as a whole.
use Rattle.std.specs.Prelude.{◌≡◌, ℕ, nat_lt, List, length, take, Option, None, Some, Result, Ok, if◌then◌else◌}
use Rattle.base_fields.specs.Results.{◌>>=◌, or_else}
use Rattle.sparse_reader.specs.Chunks.{AreChunks, chunk_at, start}
use Rattle.sparse_reader.specs.Header.{header_of, number_in}
use Rattle.sparse_reader.specs.Tally.{blocks_of, closed, tally_in}
use Rattle.sparse_reader.specs.declared.chunk.Chunk.{Chunk}
use Rattle.sparse_reader.specs.declared.chunk.Cursor.{Cursor}
use Rattle.sparse_reader.specs.declared.fault.SparseFault.{SparseFault}
use Rattle.sparse_reader.specs.declared.fault.SparseFault.TheVariants.{Missing}
use Rattle.sparse_reader.specs.declared.header.Header.{Header}
use Rattle.sparse_reader.specs.declared.view.SparseView.{SparseView}

-- what a sparse file has, or the first thing that is wrong with it
abbrev pub view_in : List ℕ → Result SparseView SparseFault
view_in bytes = do
  header ← header_of bytes
  tally ← tally_in bytes header
  closed header tally

-- the same of what stands under a name
abbrev pub sparse_of : Option (List ℕ) → Result SparseView SparseFault
sparse_of file = or_else file Missing >>= view_in

-- the chunk at a cursor below so many chunks, none where there are no more
abbrev pub chunk_below : List ℕ → Cursor → Header → Result (Option Chunk) SparseFault
chunk_below bytes c header =
    if nat_lt c.chunk header.chunks then (chunk_at bytes header.block c >>= λ chunk. Ok (Some chunk)) else Ok None

abbrev pub next_in : List ℕ → Cursor → Result (Option Chunk) SparseFault
next_in bytes c = header_of bytes >>= chunk_below bytes c

-- the same of what stands under a name
abbrev pub next_of : Option (List ℕ) → Cursor → Result (Option Chunk) SparseFault
next_of file c = or_else file Missing >>= λ bytes. next_in bytes c

-- the block size that a file's header says
abbrev pub block_of : List ℕ → ℕ
block_of bytes = number_in (take 28 bytes) 12 4

-- a file is a header and these chunks behind it, as many and with as many blocks as the header says
pub record IsSparse (bytes : List ℕ) (header : Header) (chunks : List Chunk) : Type 0 where
  pub begins : header_of bytes ≡ Ok header
  pub stand : AreChunks bytes header.block start chunks
  pub count : length chunks ≡ header.chunks
  pub blocks : blocks_of chunks ≡ header.blocks
