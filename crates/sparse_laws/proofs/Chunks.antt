-- The chunks of an image, one after another.
use Rattle.std.proofs.Common.{◌≡◌, ℕ, ◌+◌, ◌*◌, ◌^◌, ◌<◌, ◌≤◌, List, [], ◌∷◌, length, drop, flat_map, cond, false, Ok, refl, ap, subst, sym, ◌∙◌, arith}
use Rattle.std.proofs.lemmas.List.{length-append}
use Rattle.std.proofs.lemmas.List.Concat.{flat_map-cons}
use Rattle.std.proofs.lemmas.List.Sums.{sum_by-cons}
use Rattle.std.specs.List.{AllByRecursion, sum_by}
use Rattle.base_fields.specs.declared.spans.Span.{Span}
use Rattle.sparse_reader.specs.Chunks.{AreChunks, chunk_at}
use Rattle.sparse_reader.specs.Tally.{blocks_of, count_of, is_kind, one_if}
use Rattle.sparse_reader.specs.declared.chunk.Chunk.{Chunk}
use Rattle.sparse_reader.specs.declared.chunk.ChunkKind.{ChunkKind}
use Rattle.sparse_reader.specs.declared.chunk.ChunkKind.TheVariants as kind
use Rattle.sparse_text.specs.Blocks.{IsContent}
use Rattle.sparse_text.specs.Runs.{AreRuns}
use Rattle.sparse_text.specs.Text.{chunk_text, data_of, kind_in, most_raw, tag_text}
use Rattle.sparse_text.specs.declared.runs.Content.{Content}
use Rattle.sparse_text.specs.declared.runs.Content.TheVariants.{Skip, Fill, Raw}
use Rattle.sparse_text.specs.declared.runs.Run.{Run}
use Rattle.sparse_laws.specs.Read.{chunk_of, chunks_of, data_size, runs_of}
use Rattle.sparse_laws.proofs.Fits.{few_runs, run_fits}
use Rattle.sparse_laws.proofs.OneChunk.{FitsFields, chunk_read, cursor_at}
use Rattle.sparse_laws.proofs.Pieces.{Stands, long_enough, rest_there}

-- ---- each chunk stands behind the one before it

abbrev pub texts : List ℕ → ℕ → List Run → List ℕ
texts image block runs = flat_map (λ r. chunk_text image block r) runs

-- the chunks of runs stand in a file from an offset on
pub record TextsStand (image bytes : List ℕ) (block at : ℕ) (runs : List Run) : Type 0 where
  pub within : at ≤ length bytes
  pub there : drop at bytes ≡ texts image block runs

chunk_long : (image : List ℕ) (block : ℕ) (r : Run) → FitsFields image block r →
    length (chunk_text image block r) ≡ 12 + data_size block r
chunk_long image block r fits =
    let stored = fits.stored in
    let both = length-append (tag_text block r.content r.count) (data_of image block r.first r.count r.content) in
    let tag : length (tag_text block r.content r.count) ≡ 12 = refl in
    omega (arith, both, tag, stored)

pub first_stands : (image bytes : List ℕ) (block at : ℕ) (r : Run) (rest : List Run) →
    TextsStand image bytes block at (r ∷ rest) →
    Stands bytes at (chunk_text image block r) (texts image block rest)
first_stands image bytes block at r rest h = record {
  within = h.within;
  there = h.there ∙ flat_map-cons (λ (x : Run). chunk_text image block x) r rest;
}

pub rest_stand : (image bytes : List ℕ) (block at : ℕ) (r : Run) (rest : List Run) → FitsFields image block r →
    TextsStand image bytes block at (r ∷ rest) →
    TextsStand image bytes block (at + (12 + data_size block r)) rest
rest_stand image bytes block at r rest fits h =
    let first = first_stands image bytes block at r rest h in
    let long = chunk_long image block r fits in
    record {
      within = long_enough bytes (chunk_text image block r) (texts image block rest) at (12 + data_size block r)
          first long;
      there = rest_there bytes (chunk_text image block r) (texts image block rest) at (12 + data_size block r)
          first long;
    }

-- ---- they are read

pub chunks_stand : (image bytes : List ℕ) (has : ℕ → Content →
    Type 0) (most block number at first end : ℕ) (runs : List Run) →
    AreRuns has most first end runs → AllByRecursion (FitsFields image block) runs →
    TextsStand image bytes block at runs →
    AreChunks bytes block (cursor_at number at first) (chunks_of block at runs)
chunks_stand image bytes has most block number at first end [] h fits there = tt
chunks_stand image bytes has most block number at first end (r ∷ rest) h fits there =
    let here =
    chunk_read image bytes (texts image block rest) block number at r fits.0
    (first_stands image bytes block at r rest there) in
    let more =
    chunks_stand image bytes has most block (number + 1) (at + (12 + data_size block r)) (first + r.count) end rest
    h.2 fits.1 (rest_stand image bytes block at r rest fits.0 there) in
    let place : at + 12 + data_size block r ≡ at + (12 + data_size block r) = omega arith in (
      subst (λ (b : ℕ). chunk_at bytes block (cursor_at number at b) ≡ Ok (chunk_of at r)) h.0.begins here,
      subst (λ (o : ℕ). AreChunks bytes block (cursor_at (number + 1) o (first + r.count)) (chunks_of block (at + (12 + data_size block r)) rest)) (sym place) more,
    )

pub all_fit : (image : List ℕ) (cover : List Span) (block first end : ℕ) (runs : List Run) →
    end * block ≤ length image + block → end < 256 ^ 4 →
    AreRuns (IsContent image cover block) (most_raw block) first end runs →
    AllByRecursion (FitsFields image block) runs
all_fit image cover block first end [] within few h = tt
all_fit image cover block first end (r ∷ rest) within few h =
    let after = few_runs (IsContent image cover block) (most_raw block) (first + r.count) end rest h.2 in (
      run_fits image cover block first end r within few (omega (arith, after)) h.0,
      all_fit image cover block (first + r.count) end rest within few h.2,
    )

-- ---- their counts

pub chunks_long : (block at : ℕ) (runs : List Run) → length (chunks_of block at runs) ≡ length runs
chunks_long block at [] = refl
chunks_long block at (r ∷ rest) =
    let more = chunks_long block (at + (12 + data_size block r)) rest in
    omega (arith, more)

pub chunks_blocks : (block at : ℕ) (runs : List Run) → blocks_of (chunks_of block at runs) ≡ sum_by (λ r. r.count) runs
chunks_blocks block at [] = refl
chunks_blocks block at (r ∷ rest) =
    let behind_it = at + (12 + data_size block r) in
    let more = chunks_blocks block behind_it rest in
    let chunks = sum_by-cons (λ (c : Chunk). c.count) (chunk_of at r) (chunks_of block behind_it rest) in
    let runs = sum_by-cons (λ (x : Run). x.count) r rest in
    omega (arith, more, chunks, runs)

pub chunks_of_kind : (kind : ChunkKind) (block at : ℕ) (runs : List Run) →
    count_of kind (chunks_of block at runs) ≡ runs_of kind runs
chunks_of_kind kind block at [] = refl
chunks_of_kind kind block at (r ∷ rest) =
    let behind_it = at + (12 + data_size block r) in
    let more = chunks_of_kind kind block behind_it rest in
    let chunks =
    sum_by-cons (λ (c : Chunk). cond (is_kind kind c.kind) 1 0) (chunk_of at r) (chunks_of block behind_it rest) in
    let runs = sum_by-cons (λ (x : Run). cond (is_kind kind (kind_in x.content)) 1 0) r rest in
    omega (arith, more, chunks, runs)

no_crc : (content : Content) → is_kind kind.Crc (kind_in content) ≡ false
no_crc Skip = refl
no_crc (Fill word) = refl
no_crc Raw = refl

pub no_crc_chunks : (runs : List Run) → runs_of kind.Crc runs ≡ 0
no_crc_chunks [] = refl
no_crc_chunks (r ∷ rest) =
    let more = no_crc_chunks rest in
    let runs = sum_by-cons (λ (x : Run). cond (is_kind kind.Crc (kind_in x.content)) 1 0) r rest in
    let none : one_if (is_kind kind.Crc (kind_in r.content)) ≡ one_if false = ap one_if (no_crc r.content) in
    omega (arith, more, runs, none)
