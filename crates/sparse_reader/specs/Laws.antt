-- The laws of the chunks of a sparse file.
use Rattle.std.specs.Prelude.{◌≡◌, ℕ, ◌+◌, ◌<◌, ◌↔◌, List, length, take, slice_index_or, None, Some, Ok}
use Rattle.sparse_reader.specs.Chunks.{AreChunks, behind, chunks_from, cursor_after, start}
use Rattle.sparse_reader.specs.Sparse.{IsSparse, next_in, view_in}
use Rattle.sparse_reader.specs.Tally.{tally_of, view_of}
use Rattle.sparse_reader.specs.declared.chunk.Chunk.{Chunk}
use Rattle.sparse_reader.specs.declared.chunk.Cursor.{Cursor}
use Rattle.sparse_reader.specs.declared.header.Header.{Header}
use Rattle.sparse_reader.specs.declared.view.SparseView.{SparseView}

-- so many chunks that stand end to end from a cursor on are those that are found there
abbrev pub ChunksAreFound : Type 0
ChunksAreFound = (bytes : List ℕ) (block : ℕ) (c : Cursor) (chunks : List Chunk) →
    AreChunks bytes block c chunks ↔ (chunks_from bytes block (length chunks) c ≡ Ok chunks)

-- there is one list of so many chunks from a cursor on
abbrev pub OneListOfChunks : Type 0
OneListOfChunks = (bytes : List ℕ) (block : ℕ) (c : Cursor) (chunks others : List Chunk) →
    AreChunks bytes block c chunks → AreChunks bytes block c others → length chunks ≡ length others → chunks ≡ others

-- a view is that of a header and its chunks, and each such file has it
abbrev pub ViewsAreOfChunks : Type 0
ViewsAreOfChunks = (bytes : List ℕ) (view : SparseView) →
    (view_in bytes ≡ Ok view) ↔ ((header : Header) × (chunks : List Chunk) × IsSparse bytes header chunks × (view ≡ view_of header (tally_of chunks)))

-- from the first cursor on each cursor that is reached gives the next chunk, and the last one none
pub record ComeInOrder (bytes : List ℕ) (header : Header) (chunks : List Chunk) : Type 0 where
  pub next : (k : ℕ) (d : Chunk) → k < length chunks → next_in bytes (cursor_after header.block start (take k chunks)) ≡ Ok (Some (slice_index_or chunks k d))
  pub moved : (k : ℕ) (d : Chunk) → k < length chunks →
      behind header.block (cursor_after header.block start (take k chunks)) (slice_index_or chunks k d) ≡ cursor_after header.block start (take (k + 1) chunks)
  pub last : next_in bytes (cursor_after header.block start chunks) ≡ Ok None

abbrev pub ChunksComeInOrder : Type 0
ChunksComeInOrder = (bytes : List ℕ) (header : Header) (chunks : List Chunk) → IsSparse bytes header chunks → ComeInOrder bytes header chunks
