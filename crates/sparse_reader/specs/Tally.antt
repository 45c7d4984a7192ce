-- The counts of the chunks of a sparse file.
use Rattle.std.specs.Prelude.{◌≡◌, ℕ, ◌+◌, ◌-◌, ◌*◌, ◌^◌, ◌≤◌, ◌==◌, Bool, true, false, List, count_by, sum_by, Result, Ok, Err, if◌then◌else◌}
use Rattle.base_fields.specs.Results.{◌>>=◌}
use Rattle.sparse_reader.specs.Chunks.{chunks_from, start}
use Rattle.sparse_reader.specs.declared.chunk.Chunk.{Chunk}
use Rattle.sparse_reader.specs.declared.chunk.ChunkKind.{ChunkKind}
use Rattle.sparse_reader.specs.declared.chunk.ChunkKind.TheVariants.{Raw, Fill, Skip, Crc}
use Rattle.sparse_reader.specs.declared.fault.SparseFault.{SparseFault}
use Rattle.sparse_reader.specs.declared.fault.SparseFault.TheVariants.{Counts}
use Rattle.sparse_reader.specs.declared.header.Header.{Header}
use Rattle.sparse_reader.specs.declared.tally.Tally.{Tally}
use Rattle.sparse_reader.specs.declared.view.SparseView.{SparseView}

abbrev pub is_kind : ChunkKind → ChunkKind → Bool
is_kind Raw Raw = true
is_kind Fill Fill = true
is_kind Skip Skip = true
is_kind Crc Crc = true
is_kind kind other = false

-- how many of the chunks are of a kind
abbrev pub count_of : ChunkKind → List Chunk → ℕ
count_of kind chunks = count_by (λ c. is_kind kind c.kind) chunks

-- how many blocks they have
abbrev pub blocks_of : List Chunk → ℕ
blocks_of chunks = sum_by (λ c. c.count) chunks

-- the counts of chunks
abbrev pub tally_of : List Chunk → Tally
tally_of chunks = record {
  raw = count_of Raw chunks;
  fill = count_of Fill chunks;
  skip = count_of Skip chunks;
  crc = count_of Crc chunks;
  blocks = blocks_of chunks;
}

abbrev pub view_of : Header → Tally → SparseView
view_of header tally = record {
  block = header.block;
  blocks = header.blocks;
  chunks = header.chunks;
  raw = tally.raw;
  fill = tally.fill;
  skip = tally.skip;
  crc = tally.crc;
}

-- the chunks have as many blocks as the header says
abbrev pub closed : Header → Tally → Result SparseView SparseFault
closed header tally =
    if tally.blocks == header.blocks then Ok (view_of header tally) else Err (Counts header.blocks tally.blocks)

-- the counts of so many chunks behind the header
abbrev pub tally_in : List ℕ → Header → Result Tally SparseFault
tally_in bytes header = chunks_from bytes header.block header.chunks start >>= λ chunks. Ok (tally_of chunks)

-- ---- chunk by chunk

abbrev pub nothing : Tally
nothing = record { raw = 0; fill = 0; skip = 0; crc = 0; blocks = 0 }

abbrev pub one_if : Bool → ℕ
one_if b = if b then 1 else 0

abbrev pub with_chunk : Tally → Chunk → Tally
with_chunk t chunk = record {
  raw = t.raw + one_if (is_kind Raw chunk.kind);
  fill = t.fill + one_if (is_kind Fill chunk.kind);
  skip = t.skip + one_if (is_kind Skip chunk.kind);
  crc = t.crc + one_if (is_kind Crc chunk.kind);
  blocks = t.blocks + chunk.count;
}

-- the counts of so many chunks, each with blocks of 32 bits
pub record IsTally (chunks : ℕ) (t : Tally) : Type 0 where
  pub kinds : t.raw + t.fill + t.skip + t.crc ≡ chunks
  pub blocks : t.blocks ≤ chunks * (2 ^ 32 - 1)
