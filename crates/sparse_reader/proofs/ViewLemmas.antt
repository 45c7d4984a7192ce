-- Files that are a header and its chunks.
use Rattle.std.proofs.Common.{◌≡◌, ℕ, ◌<◌, ◌≤◌, ◌==◌, List, length, take, slice_index_or, nat_lt, Bool, true, false, if◌then◌else◌, Some, None, Result, Ok, Err, refl, ap, subst, sym, ◌∙◌, arith}
use Rattle.std.proofs.lemmas.Bool.Decides.{nat_tests}
use Rattle.std.proofs.lemmas.Bool.{eqb-true, eq-eqb}
use Rattle.std.proofs.lemmas.List.{length-take-le}
use Rattle.base_fields.specs.Results.{◌>>=◌}
use Rattle.sparse_reader.specs.Chunks.{AreChunks, chunks_from, cursor_after, start}
use Rattle.sparse_reader.specs.Header.{header_of}
use Rattle.sparse_reader.specs.Laws.{ChunksComeInOrder, ViewsAreOfChunks}
use Rattle.sparse_reader.specs.Sparse.{IsSparse, next_in, view_in}
use Rattle.sparse_reader.specs.Tally.{blocks_of, closed, tally_in, tally_of, view_of}
use Rattle.sparse_reader.specs.declared.chunk.Chunk.{Chunk}
use Rattle.sparse_reader.specs.declared.fault.SparseFault.{SparseFault}
use Rattle.sparse_reader.specs.declared.fault.SparseFault.TheVariants.{Counts}
use Rattle.sparse_reader.specs.declared.header.Header.{Header}
use Rattle.sparse_reader.specs.declared.view.SparseView.{SparseView}
use Rattle.sparse_reader.proofs.ChunkLemmas.{behind_there, chunk_there, found, number_after, stand}

-- ---- the view

-- what a view is of
abbrev IsOf : List ℕ → SparseView → Type 0
IsOf bytes view = (header : Header) × (chunks : List Chunk) × IsSparse bytes header chunks × (view ≡ view_of header (tally_of chunks))

of_counts : (bytes : List ℕ) (view : SparseView) (header : Header) (chunks : List Chunk) (same : Bool) →
    header_of bytes ≡ Ok header → AreChunks bytes header.block start chunks → length chunks ≡ header.chunks → (blocks_of chunks == header.blocks) ≡ same →
    (if same then Ok (view_of header (tally_of chunks)) else Err (Counts header.blocks (blocks_of chunks))) ≡ Ok view → IsOf bytes view
of_counts bytes view header chunks true begins chunks_stand count blocks h =
    let is : view_of header (tally_of chunks) ≡ view = cc in
    (header, chunks, record { begins = begins; stand = chunks_stand; count = count; blocks = eqb-true _ _ blocks }, sym is)
of_counts bytes view header chunks false begins chunks_stand count blocks h = absurd cc

of_chunks : (bytes : List ℕ) (view : SparseView) (header : Header) (chunks : Result (List Chunk) SparseFault) →
    header_of bytes ≡ Ok header → chunks_from bytes header.block header.chunks start ≡ chunks →
    ((chunks >>= λ found. Ok (tally_of found)) >>= closed header) ≡ Ok view → IsOf bytes view
of_chunks bytes view header (Ok chunks) begins there h =
    let all = stand bytes header.block header.chunks start chunks there in
    of_counts bytes view header chunks (blocks_of chunks == header.blocks) begins all.0 all.1 refl h
of_chunks bytes view header (Err e) begins there h = absurd cc

of_header : (bytes : List ℕ) (view : SparseView) (header : Result Header SparseFault) → header_of bytes ≡ header →
    (header >>= λ found. tally_in bytes found >>= closed found) ≡ Ok view → IsOf bytes view
of_header bytes view (Ok header) begins h = of_chunks bytes view header (chunks_from bytes header.block header.chunks start) begins refl h
of_header bytes view (Err e) begins h = absurd cc

has_view : (bytes : List ℕ) (header : Header) (chunks : List Chunk) → IsSparse bytes header chunks → view_in bytes ≡ Ok (view_of header (tally_of chunks))
has_view bytes header chunks is =
    let begins = is.begins in
    let there : chunks_from bytes header.block header.chunks start ≡ Ok chunks =
    subst (λ (n : ℕ). chunks_from bytes header.block n start ≡ Ok chunks) is.count (found bytes header.block start chunks is.stand) in
    let same : (blocks_of chunks == header.blocks) ≡ true = eq-eqb _ _ is.blocks in
    rw (begins, there, same) refl

pub views_are_of_chunks : ViewsAreOfChunks
views_are_of_chunks bytes view = (
  λ h. of_header bytes view (header_of bytes) refl h,
  λ (header, chunks, is, same). has_view bytes header chunks is ∙ ap Ok (sym same),
)

-- ---- the calls one after another

below_true : (a b : ℕ) → a < b → nat_lt a b ≡ true
below_true a b h = grind (arith, nat_tests)

past_false : (a b : ℕ) → b ≤ a → nat_lt a b ≡ false
past_false a b h = grind (arith, nat_tests)

next_there : (bytes : List ℕ) (header : Header) (chunks : List Chunk) → IsSparse bytes header chunks → (k : ℕ) (d : Chunk) → k < length chunks →
    next_in bytes (cursor_after header.block start (take k chunks)) ≡ Ok (Some (slice_index_or chunks k d))
next_there bytes header chunks is k d inside =
    let begins = is.begins in
    let count = is.count in
    let number = number_after header.block start (take k chunks) in
    let short = length-take-le k chunks (omega arith) in
    let below = below_true (cursor_after header.block start (take k chunks)).chunk header.chunks (omega (arith, number, short, count)) in
    let there = chunk_there bytes header.block start chunks k d is.stand inside in
    rw (begins, below, there) refl

next_last : (bytes : List ℕ) (header : Header) (chunks : List Chunk) → IsSparse bytes header chunks → next_in bytes (cursor_after header.block start chunks) ≡ Ok None
next_last bytes header chunks is =
    let begins = is.begins in
    let count = is.count in
    let number = number_after header.block start chunks in
    let past = past_false (cursor_after header.block start chunks).chunk header.chunks (omega (arith, number, count)) in
    rw (begins, past) refl

pub chunks_come_in_order : ChunksComeInOrder
chunks_come_in_order bytes header chunks is = record {
  next = next_there bytes header chunks is;
  moved = behind_there header.block start chunks;
  last = next_last bytes header chunks is;
}
