-- The counts of chunks, one chunk after another.
use Rattle.std.proofs.Common.{◌≡◌, ℕ, suc, ◌+◌, ◌-◌, ◌<◌, ◌≤◌, List, [], ◌∷◌, cond, Result, Ok, Err, refl, ap, ◌∙◌, add-zero, arith}
use Rattle.std.proofs.lemmas.List.Sums.{sum_by-cons}
use Rattle.sparse_reader.specs.Answers.{Refuses}
use Rattle.base_fields.specs.Results.{◌>>=◌}
use Rattle.sparse_reader.specs.Chunks.{behind, chunk_at, chunks_from}
use Rattle.sparse_reader.specs.Tally.{blocks_of, count_of, is_kind, one_if, with_chunk}
use Rattle.sparse_reader.specs.declared.chunk.Chunk.{Chunk}
use Rattle.sparse_reader.specs.declared.chunk.ChunkKind.{ChunkKind}
use Rattle.sparse_reader.specs.declared.chunk.ChunkKind.TheVariants.{Raw, Fill, Skip, Crc}
use Rattle.sparse_reader.specs.declared.chunk.Cursor.{Cursor}
use Rattle.sparse_reader.specs.declared.fault.SparseFault.{SparseFault}
use Rattle.sparse_reader.specs.declared.fault.SparseFault.TheVariants.{BadMagic, BadChunk, Short, Counts, Missing, FileFault}
use Rattle.sparse_reader.specs.declared.tally.Tally.{Tally}

-- the counts with those of more chunks
abbrev pub plus : Tally → List Chunk → Tally
plus t chunks = record {
  raw = t.raw + count_of Raw chunks;
  fill = t.fill + count_of Fill chunks;
  skip = t.skip + count_of Skip chunks;
  crc = t.crc + count_of Crc chunks;
  blocks = t.blocks + blocks_of chunks;
}

-- the counts with those of so many chunks from a cursor on
abbrev pub tallied : List ℕ → ℕ → ℕ → Cursor → Tally → Result Tally SparseFault
tallied bytes block n c t = chunks_from bytes block n c >>= λ rest. Ok (plus t rest)

-- counts with the same fields are one
abbrev counts : ℕ → ℕ → ℕ → ℕ → ℕ → Tally
counts raw fill skip crc blocks = record { raw = raw; fill = fill; skip = skip; crc = crc; blocks = blocks }

same_counts : (a b : Tally) → a.raw ≡ b.raw → a.fill ≡ b.fill → a.skip ≡ b.skip → a.crc ≡ b.crc → a.blocks ≡ b.blocks → a ≡ b
same_counts a b raw fill skip crc blocks =
    ap (λ (x : ℕ). counts x a.fill a.skip a.crc a.blocks) raw
    ∙ ap (λ (x : ℕ). counts b.raw x a.skip a.crc a.blocks) fill
    ∙ ap (λ (x : ℕ). counts b.raw b.fill x a.crc a.blocks) skip
    ∙ ap (λ (x : ℕ). counts b.raw b.fill b.skip x a.blocks) crc
    ∙ ap (λ (x : ℕ). counts b.raw b.fill b.skip b.crc x) blocks

-- one more of a kind, and then the rest
count_more : (kind : ChunkKind) (n : ℕ) (chunk : Chunk) (rest : List Chunk) → n + count_of kind (chunk ∷ rest) ≡ n + one_if (is_kind kind chunk.kind) + count_of kind rest
count_more kind n chunk rest =
    let first = sum_by-cons (λ (c : Chunk). cond (is_kind kind c.kind) 1 0) chunk rest in
    omega (arith, first)

blocks_more : (n : ℕ) (chunk : Chunk) (rest : List Chunk) → n + blocks_of (chunk ∷ rest) ≡ n + chunk.count + blocks_of rest
blocks_more n chunk rest =
    let first = sum_by-cons (λ (c : Chunk). c.count) chunk rest in
    omega (arith, first)

plus_more : (t : Tally) (chunk : Chunk) (rest : List Chunk) → plus t (chunk ∷ rest) ≡ plus (with_chunk t chunk) rest
plus_more t chunk rest =
    same_counts (plus t (chunk ∷ rest)) (plus (with_chunk t chunk) rest)
    (count_more Raw t.raw chunk rest) (count_more Fill t.fill chunk rest) (count_more Skip t.skip chunk rest)
    (count_more Crc t.crc chunk rest) (blocks_more t.blocks chunk rest)

rest_more : (found : Result (List Chunk) SparseFault) (t : Tally) (chunk : Chunk) → ((found >>= λ rest. Ok (chunk ∷ rest)) >>= λ rest. Ok (plus t rest)) ≡ (found >>= λ rest. Ok (plus (with_chunk t chunk) rest))
rest_more (Ok rest) t chunk = ap Ok (plus_more t chunk rest)
rest_more (Err e) t chunk = refl

-- a chunk goes to the counts, and the cursor behind it
pub tallied_more : (bytes : List ℕ) (block n : ℕ) (c : Cursor) (t : Tally) (chunk : Chunk) → chunk_at bytes block c ≡ Ok chunk → tallied bytes block (suc n) c t ≡ tallied bytes block n (behind block c chunk) (with_chunk t chunk)
unfolding chunks_from
tallied_more bytes block n c t chunk h = rw h (rest_more (chunks_from bytes block n (behind block c chunk)) t chunk)

-- a chunk that is refused ends them
pub tallied_refused : (bytes : List ℕ) (block n : ℕ) (c : Cursor) (t : Tally) (e : SparseFault) → chunk_at bytes block c ≡ Err e → tallied bytes block (suc n) c t ≡ Err e
unfolding chunks_from
tallied_refused bytes block n c t e h = rw h refl

-- without chunks the counts stand
pub tallied_none : (bytes : List ℕ) (block : ℕ) (c : Cursor) (t : Tally) → tallied bytes block 0 c t ≡ Ok t
unfolding chunks_from
tallied_none bytes block c t = ap Ok (same_counts (plus t []) t (add-zero t.raw) (add-zero t.fill) (add-zero t.skip) (add-zero t.crc) (add-zero t.blocks))

refused_first : (bytes : List ℕ) (block n : ℕ) (c : Cursor) (t : Tally) (e : SparseFault) → Refuses (chunk_at bytes block c) e → Refuses (tallied bytes block (suc n) c t) e
refused_first bytes block n c t FileFault h = tt
refused_first bytes block n c t Missing h = tallied_refused bytes block n c t Missing h
refused_first bytes block n c t (Short at) h = tallied_refused bytes block n c t (Short at) h
refused_first bytes block n c t (BadMagic at) h = tallied_refused bytes block n c t (BadMagic at) h
refused_first bytes block n c t (BadChunk k) h = tallied_refused bytes block n c t (BadChunk k) h
refused_first bytes block n c t (Counts want got) h = tallied_refused bytes block n c t (Counts want got) h

-- the refusal of a chunk below a number of them is that of all
pub refused_below : (bytes : List ℕ) (block all : ℕ) (c : Cursor) (t : Tally) (e : SparseFault) → c.chunk < all → Refuses (chunk_at bytes block c) e → Refuses (tallied bytes block (all - c.chunk) c t) e
refused_below bytes block all c t e below h =
    let left : all - c.chunk ≡ suc (all - (c.chunk + 1)) = omega arith in
    rw left (refused_first bytes block (all - (c.chunk + 1)) c t e h)

-- a chunk below a number of them leaves the others
pub tallied_below : (bytes : List ℕ) (block all : ℕ) (c : Cursor) (t : Tally) (chunk : Chunk) → c.chunk < all → chunk_at bytes block c ≡ Ok chunk →
    tallied bytes block (all - c.chunk) c t ≡ tallied bytes block (all - (c.chunk + 1)) (behind block c chunk) (with_chunk t chunk)
tallied_below bytes block all c t chunk below h =
    let left : all - c.chunk ≡ suc (all - (c.chunk + 1)) = omega arith in
    rw left (tallied_more bytes block (all - (c.chunk + 1)) c t chunk h)

-- behind the last chunk the counts stand
pub tallied_last : (bytes : List ℕ) (block all : ℕ) (c : Cursor) (t : Tally) → all ≤ c.chunk → tallied bytes block (all - c.chunk) c t ≡ Ok t
tallied_last bytes block all c t past =
    let left : all - c.chunk ≡ 0 = omega arith in
    rw left (tallied_none bytes block c t)
