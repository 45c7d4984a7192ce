-- The chunks of a file as a list, and in their order.
use Rattle.std.proofs.Common.{◌≡◌, ℕ, zero, suc, ◌+◌, ◌<◌, List, [], ◌∷◌, length, take, slice_index_or, Result, Ok, Err, refl, ap, subst, sym, add-zero, add-one, arith}
use Rattle.base_fields.specs.Results.{◌>>=◌}
use Rattle.sparse_reader.specs.Chunks.{AreChunks, behind, chunk_at, chunks_from, cursor_after}
use Rattle.sparse_reader.specs.Laws.{ChunksAreFound, OneListOfChunks}
use Rattle.sparse_reader.specs.declared.chunk.Chunk.{Chunk}
use Rattle.sparse_reader.specs.declared.chunk.Cursor.{Cursor}
use Rattle.sparse_reader.specs.declared.fault.SparseFault.{SparseFault}

-- ---- a list of chunks

-- chunks that stand are found
pub found : (bytes : List ℕ) (block : ℕ) (c : Cursor) (chunks : List Chunk) → AreChunks bytes block c chunks → chunks_from bytes block (length chunks) c ≡ Ok chunks
unfolding chunks_from
found bytes block c [] h = refl
found bytes block c (chunk ∷ rest) h =
    let here = h.0 in
    let more = found bytes block (behind block c chunk) rest h.1 in
    rw (here, more) refl

-- so many chunks stand from a cursor on
abbrev Stand : List ℕ → ℕ → ℕ → Cursor → List Chunk → Type 0
Stand bytes block n c chunks = AreChunks bytes block c chunks × (length chunks ≡ n)

abbrev AllStand : List ℕ → ℕ → ℕ → Type 0
AllStand bytes block n = (c : Cursor) (chunks : List Chunk) → chunks_from bytes block n c ≡ Ok chunks → Stand bytes block n c chunks

stand_rest : (bytes : List ℕ) (block n : ℕ) (c : Cursor) (chunk : Chunk) (chunks : List Chunk) (rest : Result (List Chunk) SparseFault) →
    AllStand bytes block n → chunk_at bytes block c ≡ Ok chunk → chunks_from bytes block n (behind block c chunk) ≡ rest →
    (rest >>= λ found. Ok (chunk ∷ found)) ≡ Ok chunks → Stand bytes block (suc n) c chunks
stand_rest bytes block n c chunk chunks (Ok rest) all here more h =
    let behind_it = all (behind block c chunk) rest more in
    let same : chunk ∷ rest ≡ chunks = cc in
    subst (Stand bytes block (suc n) c) same ((here, behind_it.0), ap suc behind_it.1)
stand_rest bytes block n c chunk chunks (Err e) all here more h = absurd cc

stand_first : (bytes : List ℕ) (block n : ℕ) (c : Cursor) (chunks : List Chunk) (first : Result Chunk SparseFault) →
    AllStand bytes block n → chunk_at bytes block c ≡ first →
    (first >>= λ chunk. chunks_from bytes block n (behind block c chunk) >>= λ rest. Ok (chunk ∷ rest)) ≡ Ok chunks → Stand bytes block (suc n) c chunks
stand_first bytes block n c chunks (Ok chunk) all here h =
    stand_rest bytes block n c chunk chunks (chunks_from bytes block n (behind block c chunk)) all here refl h
stand_first bytes block n c chunks (Err e) all here h = absurd cc

-- chunks that are found stand
pub stand : (bytes : List ℕ) (block n : ℕ) → AllStand bytes block n
unfolding chunks_from
stand bytes block zero c [] h = (tt, refl)
stand bytes block zero c (chunk ∷ rest) h = absurd cc
stand bytes block (suc n) c chunks h = stand_first bytes block n c chunks (chunk_at bytes block c) (stand bytes block n) refl h

pub chunks_are_found : ChunksAreFound
chunks_are_found bytes block c chunks = (found bytes block c chunks, λ h. (stand bytes block (length chunks) c chunks h).0)

pub one_list_of_chunks : OneListOfChunks
one_list_of_chunks bytes block c chunks others h more same =
    let one = found bytes block c chunks h in
    let other = found bytes block c others more in
    let both : chunks_from bytes block (length chunks) c ≡ chunks_from bytes block (length others) c = ap (λ (n : ℕ). chunks_from bytes block n c) same in
    cc

-- ---- their order

-- the chunk of a number is found behind those before it
pub chunk_there : (bytes : List ℕ) (block : ℕ) (c : Cursor) (chunks : List Chunk) (k : ℕ) (d : Chunk) → AreChunks bytes block c chunks → k < length chunks → chunk_at bytes block (cursor_after block c (take k chunks)) ≡ Ok (slice_index_or chunks k d)
chunk_there bytes block c [] k d h inside = absurd (omega arith)
chunk_there bytes block c (chunk ∷ rest) zero d h inside = h.0
chunk_there bytes block c (chunk ∷ rest) (suc k) d h inside = chunk_there bytes block (behind block c chunk) rest k d h.1 (omega arith)

-- and the cursor behind it is that behind one more
behind_next : (block : ℕ) (c : Cursor) (chunks : List Chunk) (k : ℕ) (d : Chunk) → k < length chunks → behind block (cursor_after block c (take k chunks)) (slice_index_or chunks k d) ≡ cursor_after block c (take (suc k) chunks)
behind_next block c [] k d inside = absurd (omega arith)
behind_next block c (chunk ∷ rest) zero d inside = refl
behind_next block c (chunk ∷ rest) (suc k) d inside = behind_next block (behind block c chunk) rest k d (omega arith)

pub behind_there : (block : ℕ) (c : Cursor) (chunks : List Chunk) (k : ℕ) (d : Chunk) → k < length chunks → behind block (cursor_after block c (take k chunks)) (slice_index_or chunks k d) ≡ cursor_after block c (take (k + 1) chunks)
behind_there block c chunks k d inside = rw (add-one k) (behind_next block c chunks k d inside)

-- a cursor behind chunks has their number
pub number_after : (block : ℕ) (c : Cursor) (chunks : List Chunk) → (cursor_after block c chunks).chunk ≡ c.chunk + length chunks
number_after block c [] = sym (add-zero c.chunk)
number_after block c (chunk ∷ rest) =
    let more = number_after block (behind block c chunk) rest in
    omega (arith, more)
