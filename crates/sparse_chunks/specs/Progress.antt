-- How far the chunks of a sparse file are written.
use Rattle.std.specs.Prelude.{◌≡◌, ℕ, ◌+◌, ◌*◌, ◌^◌, ◌<◌, ◌≤◌, List, [], ◌∷◌, ◌++◌, length, take, drop, flat_map, Option, None, Some}
use Rattle.byteorder.specs.Endian.{little_bytes}
use Rattle.base_fields.specs.declared.spans.Span.{Span}
use Rattle.sparse_reader.specs.Chunks.{data_len}
use Rattle.sparse_text.specs.Blocks.{IsContent, padded}
use Rattle.sparse_text.specs.Runs.{Ends}
use Rattle.sparse_text.specs.Text.{AreRunsOf, chunk_text, kind_in, most_raw}
use Rattle.sparse_text.specs.declared.runs.Content.{Content}
use Rattle.sparse_text.specs.declared.runs.Content.TheVariants.{Skip, Fill, Raw}
use Rattle.sparse_text.specs.declared.runs.Run.{Run}
use Rattle.sparse_chunks.specs.declared.progress.Placed.{Placed}
use Rattle.sparse_chunks.specs.declared.progress.Progress.{Progress}

-- ---- one chunk

-- the bytes of a chunk
abbrev pub size_of : ℕ → Run → ℕ
size_of block r = 12 + data_len (kind_in r.content) block r.count

-- the data of a chunk whose blocks have these bytes, and what more blocks add to it
abbrev pub data_with : Content → List ℕ → List ℕ
data_with Skip bytes = []
data_with (Fill word) bytes = little_bytes 4 word
data_with Raw bytes = bytes

abbrev pub more_with : Content → List ℕ → List ℕ
more_with Raw bytes = bytes
more_with content bytes = []

-- ---- all so far

-- the blocks that are written, and the file's length
abbrev pub done_after : Option Placed → ℕ
done_after None = 0
done_after (Some l) = l.run.first + l.run.count

abbrev pub end_after : ℕ → Option Placed → ℕ
end_after block None = 28
end_after block (Some l) = l.at + size_of block l.run

-- what holds of the last chunk: it begins before so many bytes, and a raw one isn't too long
pub record IsPlaced (block : ℕ) (l : Placed) : Type 0 where
  pub at : l.at ≤ 28 + l.run.first * 2 ^ 21
  pub some : 0 < l.run.count
  pub short : l.run.content ≡ Raw → l.run.count ≤ most_raw block
  pub few : l.run.first + l.run.count ≤ 2 ^ 31

abbrev pub IsLastPlaced : ℕ → Option Placed → Type 0
IsLastPlaced block None = Unit {0}
IsLastPlaced block (Some l) = IsPlaced block l

pub record IsProgress (block : ℕ) (p : Progress) : Type 0 where
  pub chunks : p.chunks ≤ done_after p.last
  pub few : done_after p.last ≤ 2 ^ 31
  pub last : IsLastPlaced block p.last

-- the chunks' bytes, end to end
abbrev pub chunks_text : List ℕ → ℕ → List Run → List ℕ
chunks_text image block runs = flat_map (λ r. chunk_text image block r) runs

-- the last of the chunks, and where it stands
abbrev pub IsLast : List ℕ → ℕ → Option Placed → List Run → Type 0
IsLast image block None runs = runs ≡ []
IsLast image block (Some l) runs = (front : List Run) × (runs ≡ front ++ l.run ∷ []) × (l.at ≡ 28 + length (chunks_text image block front))

-- a file has a header of any bytes, and the chunks of the blocks so far
pub record Stands (image : List ℕ) (cover : List Span) (block : ℕ) (p : Progress) (bytes head : List ℕ) (runs : List Run) : Type 0 where
  pub header : length head ≡ 28
  pub are_runs : AreRunsOf image cover block (done_after p.last) runs
  pub are_bytes : bytes ≡ head ++ chunks_text image block runs
  pub count : length runs ≡ p.chunks
  pub last : IsLast image block p.last runs

abbrev pub IsWritten : List ℕ → List Span → ℕ → Progress → List ℕ → Type 0
IsWritten image cover block p bytes = (head : List ℕ) × (runs : List Run) × Stands image cover block p bytes head runs

-- ---- one more run

-- the last run may not take these blocks
abbrev pub IsApart : ℕ → Option Placed → Run → Type 0
IsApart block None r = Unit {0}
IsApart block (Some l) r = Ends (most_raw block) l.run r

-- some of a run's blocks, from its first one on, go to the run before it
pub record TakesSome (block : ℕ) (l : Placed) (r : Run) (count : ℕ) : Type 0 where
  pub same : l.run.content ≡ r.content
  pub more : l.run.count < count
  pub within : count ≤ l.run.count + r.count
  pub short : r.content ≡ Raw → count ≤ most_raw block

-- how the blocks of a run are taken: by the last one, which has so many then, or not by it
abbrev pub Takes : ℕ → Option Placed → Run → Option ℕ → Type 0
Takes block None r None = Unit {0}
Takes block None r (Some count) = ⊥
Takes block (Some l) r None = Ends (most_raw block) l.run r
Takes block (Some l) r (Some count) = TakesSome block l r count

-- the last chunk with so many blocks
abbrev pub placed_with : Placed → ℕ → Placed
placed_with l count = record { run = record { first = l.run.first; count = count; content = l.run.content }; at = l.at }

-- ---- what these blocks are

-- these bytes are those of the image's blocks of a run, where it is raw
abbrev pub HasBytes : List ℕ → ℕ → Run → List ℕ → Type 0
HasBytes image block r bytes = r.content ≡ Raw → take (r.count * block) bytes ≡ take (r.count * block) (drop (r.first * block) (padded image block))

-- each block of a run is of its content
abbrev pub AreAlike : List ℕ → List Span → ℕ → Run → Type 0
AreAlike image cover block r = (b : ℕ) → r.first ≤ b → b < r.first + r.count → IsContent image cover block b r.content
