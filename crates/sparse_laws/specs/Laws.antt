-- The law of sparse files that are written and read.
use Rattle.std.specs.Prelude.{◌≡◌, ℕ, ◌^◌, ◌≤◌, List, length, Some, Ok}
use Rattle.std.specs.Int.{div_ceil}
use Rattle.base_fields.specs.Numbers.{IsPowerBetween}
use Rattle.base_fields.specs.declared.spans.Span.{Span}
use Rattle.sparse_reader.specs.Sparse.{IsSparse, sparse_of}
use Rattle.sparse_text.specs.Blocks.{block_at}
use Rattle.sparse_text.specs.Text.{AreRunsOf, IsSparseText}
use Rattle.sparse_text.specs.declared.runs.Run.{Run}
use Rattle.sparse_laws.specs.Expands.{AreBytes, ChunksExpand}
use Rattle.sparse_laws.specs.Read.{chunks_of, header_for, view_for}

-- a file is read as the chunks of these runs, and as nothing else: there is one list of chunks of a file
pub record IsReadAs (image : List ℕ) (cover : List Span) (block : ℕ) (text : List ℕ) (runs : List Run) : Type 0 where
  pub are_runs : AreRunsOf image cover block (div_ceil (length image) block) runs
  pub sparse : IsSparse text (header_for image block runs) (chunks_of block 28 runs)
  pub view : sparse_of (Some text) ≡ Ok (view_for image block runs)
  pub expands : ChunksExpand text image cover block (chunks_of block 28 runs)

-- the sparse file of an image, in blocks of 4,096 to 1,048,576 bytes, is read as the chunks of its runs
abbrev pub SparseTextIsRead : Type 0
SparseTextIsRead = (image : List ℕ) (cover : List Span) (block : ℕ) (text : List ℕ) →
    IsPowerBetween 4096 1048576 block → length image ≤ 2 ^ 43 → IsSparseText image cover block text →
    (runs : List Run) × IsReadAs image cover block text runs

-- the blocks of an image of bytes are bytes, with the zeros behind its end
abbrev pub BlocksAreBytes : Type 0
BlocksAreBytes = (image : List ℕ) (block b : ℕ) → AreBytes image → AreBytes (block_at image block b)
