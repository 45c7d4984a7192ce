-- What an answer says of a file's bytes, and of the counts of the files.
use Rattle.std.specs.Prelude.{◌≡◌, ◌≢◌, ℕ, ◌+◌, ◌-◌, ◌*◌, ◌^◌, ◌<◌, ◌⊎◌, IsTrue, List, length, Option, None, Some, Result, Ok, Err}
use Rattle.outside.specs.Counts.{Counts, Rose}
use Rattle.outside.specs.Files.{Tree, IsThere, bytes_of}
use Rattle.base_fields.specs.Results.{or_else}
use Rattle.sparse_reader.specs.Chunks.{behind}
use Rattle.sparse_reader.specs.Header.{IsField, is_block}
use Rattle.sparse_reader.specs.declared.chunk.Chunk.{Chunk}
use Rattle.sparse_reader.specs.declared.chunk.ChunkKind.{ChunkKind}
use Rattle.sparse_reader.specs.declared.chunk.ChunkKind.TheVariants.{Raw, Fill, Skip, Crc}
use Rattle.sparse_reader.specs.declared.chunk.Cursor.{Cursor}
use Rattle.sparse_reader.specs.declared.fault.SparseFault.{SparseFault}
use Rattle.sparse_reader.specs.declared.fault.SparseFault.TheVariants as fault
use Rattle.sparse_reader.specs.declared.view.SparseView.{SparseView}

-- a refusal is the wanted one, or a call failed
abbrev pub Refuses : {A : Type 0} → Result A SparseFault → SparseFault → Type 0
Refuses wanted fault.FileFault = Unit {0}
Refuses wanted refusal = wanted ≡ Err refusal

abbrev pub Answers : {A : Type 0} → Result A SparseFault → Result A SparseFault → Type 0
Answers wanted (Ok got) = wanted ≡ Ok got
Answers wanted (Err refusal) = Refuses wanted refusal

-- a buffer has the wanted bytes, or the refusal is the wanted one
abbrev pub Reads : Result (List ℕ) SparseFault → List ℕ → Result Unit SparseFault → Type 0
Reads wanted got (Ok done) = wanted ≡ Ok got
Reads wanted got (Err refusal) = Refuses wanted refusal

-- the answer to a question about the length
abbrev pub HasLength : Tree → List ℕ → Result ℕ SparseFault → Type 0
HasLength file name (Ok len) = IsThere file name (len ≡ length (bytes_of file name))
HasLength file name (Err refusal) = Refuses (or_else (file name) fault.Missing) refusal

-- no byte that is read stands further on: behind a header of 28 bytes come less than 2^32 chunks, each of less than 2^32 bytes
abbrev pub most_bytes : ℕ
most_bytes = 28 + (2 ^ 32 - 1) * (2 ^ 32 - 1)

-- a refusal of the files comes only where its count rose, or the length shows it; what is wrong with bytes is a field
-- with one value or the block size, or two counts that differ
abbrev pub HasCause : Counts → Counts → SparseFault → Type 0
HasCause before now fault.FileFault = Rose before.faults now.faults
HasCause before now fault.Missing = Rose before.absences now.absences
HasCause before now (fault.Short at) = Rose before.ends now.ends ⊎ (at < most_bytes)
HasCause before now (fault.BadMagic at) = IsField at
HasCause before now (fault.BadChunk k) = k < 2 ^ 32 - 1
HasCause before now (fault.Counts want got) = want ≢ got

-- what can be refused at chunk number k: no other chunk is bad, and no sum is looked at
abbrev pub IsFaultAt : ℕ → SparseFault → Type 0
IsFaultAt k (fault.BadChunk j) = j ≡ k
IsFaultAt k (fault.Counts want got) = ⊥
IsFaultAt k refusal = Unit {0}

-- the one refusal of a whole header
abbrev pub IsBadMagic : SparseFault → Type 0
IsBadMagic (fault.BadMagic at) = IsField at
IsBadMagic refusal = ⊥

-- the one refusal behind the last chunk: two counts that differ
abbrev pub IsCounts : SparseFault → Type 0
IsCounts (fault.Counts want got) = want ≢ got
IsCounts refusal = ⊥

-- what always holds of a view: its chunks are of the four kinds
pub record IsView (v : SparseView) : Type 0 where
  pub block : IsTrue (is_block v.block)
  pub kinds : v.raw + v.fill + v.skip + v.crc ≡ v.chunks

-- a chunk whose total is below 2^32; only a fill chunk has a word, and a CRC chunk no blocks
abbrev pub HasForm : ℕ → ChunkKind → ℕ → ℕ → Type 0
HasForm block Raw count word = (12 + count * block < 2 ^ 32) × (word ≡ 0)
HasForm block Fill count word = Unit {0}
HasForm block Skip count word = word ≡ 0
HasForm block Crc count word = (count ≡ 0) × (word ≡ 0)

-- the chunk at a cursor, in blocks of a size, and the cursor behind it
pub record IsStep (block : ℕ) (old : Cursor) (chunk : Chunk) (new : Cursor) : Type 0 where
  pub sized : IsTrue (is_block block)
  pub first : chunk.first ≡ old.block
  pub at : chunk.at ≡ old.at + 12
  pub form : HasForm block chunk.kind chunk.count chunk.word
  pub moved : new ≡ behind block old chunk

-- with a chunk the cursor moves behind it; a refusal and the end leave it as it is
abbrev pub Moves : Cursor → Result (Option Chunk) SparseFault → Cursor → Type 0
Moves old (Ok (Some chunk)) new = (block : ℕ) × IsStep block old chunk new
Moves old (Ok None) new = new ≡ old
Moves old (Err refusal) new = new ≡ old

-- the same with the block size of a header
abbrev pub MovesBy : ℕ → Cursor → Result (Option Chunk) SparseFault → Cursor → Type 0
MovesBy block old (Ok (Some chunk)) new = new ≡ behind block old chunk
MovesBy block old (Ok None) new = new ≡ old
MovesBy block old (Err refusal) new = new ≡ old
