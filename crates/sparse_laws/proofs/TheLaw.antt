-- The sparse file of an image is read as its chunks.
use Rattle.std.proofs.Common.{◌≡◌, ℕ, ◌^◌, ◌<◌, ◌≤◌, List, [], ◌∷◌, length, true, Option, None, Ok, refl, ap, subst, sym, ◌∙◌, arith}
use Rattle.std.specs.Int.{div_ceil}
use Rattle.byteorder.specs.Numbers.{little_number-reads_back}
use Rattle.base_fields.specs.Fields.{joined, number}
use Rattle.base_fields.specs.Numbers.{IsPowerBetween}
use Rattle.base_fields.specs.declared.spans.Span.{Span}
use Rattle.sparse_reader.proofs.ViewLemmas.{views_are_of_chunks}
use Rattle.sparse_reader.specs.Header.{first_bad, fixed_fields, header_in, header_of, is_block, number_in, or_bad, said_by}
use Rattle.sparse_reader.specs.Sparse.{IsSparse}
use Rattle.sparse_reader.specs.Tally.{tally_of, view_of}
use Rattle.sparse_reader.specs.declared.chunk.ChunkKind.TheVariants as kind
use Rattle.sparse_reader.specs.declared.header.Header.{Header}
use Rattle.sparse_reader.specs.declared.view.SparseView.{SparseView}
use Rattle.sparse_text.proofs.RunLemmas.{all_counted}
use Rattle.sparse_text.specs.Blocks.{IsContent}
use Rattle.sparse_text.specs.Text.{AreRunsOf, header_text, most_raw, text_of}
use Rattle.sparse_text.specs.declared.runs.Run.{Run}
use Rattle.sparse_laws.specs.Laws.{IsReadAs, SparseTextIsRead}
use Rattle.sparse_laws.specs.Read.{chunks_of, header_for, view_for}
use Rattle.sparse_laws.proofs.Chunks.{TextsStand, all_fit, chunks_blocks, chunks_long, chunks_of_kind, chunks_stand, no_crc_chunks, texts}
use Rattle.sparse_laws.proofs.Fits.{few_blocks, few_runs, within_padded}
use Rattle.sparse_laws.proofs.Pieces.{Stands, long_enough, part_read, rest_there}
use Rattle.sparse_laws.proofs.Powers.{is_a_block}
use Rattle.sparse_laws.proofs.Stored.{all_covered, all_stored}

-- ---- the header

abbrev header_with : ℕ → ℕ → ℕ → Header
header_with block blocks chunks = record { block = block; blocks = blocks; chunks = chunks }

-- bytes with the fixed numbers and these three are that header
header_with_numbers : (block blocks chunks : ℕ) (head : List ℕ) → number_in head 0 4 ≡ 0xED26FF3A →
    number_in head 4 2 ≡ 1 → number_in head 6 2 ≡ 0 →
    number_in head 8 2 ≡ 28 → number_in head 10 2 ≡ 12 → number_in head 12 4 ≡ block → number_in head 16 4 ≡ blocks →
    number_in head 20 4 ≡ chunks →
    is_block block ≡ true → header_in head ≡ Ok (header_with block blocks chunks)
header_with_numbers block blocks chunks head magic major minor own tags size all count is =
    let good : first_bad fixed_fields head ≡ None = rw (magic, major, minor, own, tags, size, is) refl in
    let said : said_by head ≡ header_with block blocks chunks =
    ap (λ (n : ℕ). header_with n (number_in head 16 4) (number_in head 20 4)) size
    ∙ ap (λ (n : ℕ). header_with block n (number_in head 20 4)) all
    ∙ ap (λ (n : ℕ). header_with block blocks n) count in
    ap (λ (bad : Option ℕ). or_bad bad head) good ∙ ap Ok said

header_read : (block blocks chunks : ℕ) → block < 256 ^ 4 → blocks < 256 ^ 4 → chunks < 256 ^ 4 →
    is_block block ≡ true →
    header_in (header_text block blocks chunks) ≡ Ok (header_with block blocks chunks)
header_read block blocks chunks small few short is =
    let behind_chunks : List ℕ = joined (number 24 4 0 ∷ []) in
    let behind_blocks : List ℕ = joined (number 20 4 chunks ∷ number 24 4 0 ∷ []) in
    let behind_block : List ℕ = joined (number 16 4 blocks ∷ number 20 4 chunks ∷ number 24 4 0 ∷ []) in
    header_with_numbers block blocks chunks (header_text block blocks chunks) refl refl refl refl refl
    (little_number-reads_back 4 block behind_block small)
    (little_number-reads_back 4 blocks behind_blocks few)
    (little_number-reads_back 4 chunks behind_chunks short) is

header_stands : (image : List ℕ) (block blocks : ℕ) (runs : List Run) →
    Stands (text_of image block blocks runs) 0 (header_text block blocks (length runs)) (texts image block runs)
header_stands image block blocks runs = record { within = omega arith; there = refl }

header_there : (image : List ℕ) (block blocks : ℕ) (runs : List Run) → block < 256 ^ 4 → blocks < 256 ^ 4 →
    length runs < 256 ^ 4 → is_block block ≡ true →
    header_of (text_of image block blocks runs) ≡ Ok (header_with block blocks (length runs))
header_there image block blocks runs small few short is =
    let text = text_of image block blocks runs in
    let head = header_text block blocks (length runs) in
    let there = part_read text head (texts image block runs) 0 28 (header_stands image block blocks runs) refl in
    let read = header_read block blocks (length runs) small few short is in
    rw (there, read) refl

-- behind it stand the chunks
chunks_there : (image : List ℕ) (block blocks : ℕ) (runs : List Run) →
    TextsStand image (text_of image block blocks runs) block 28 runs
chunks_there image block blocks runs =
    let text = text_of image block blocks runs in
    let head = header_text block blocks (length runs) in
    let first = header_stands image block blocks runs in
    let behind_it = texts image block runs in
    let long = long_enough text head behind_it 0 28 first refl in
    record { within = omega (arith, long); there = rest_there text head behind_it 0 28 first refl }

-- ---- the view

view_is : (image : List ℕ) (block at : ℕ) (runs : List Run) →
    view_of (header_for image block runs) (tally_of (chunks_of block at runs)) ≡ view_for image block runs
view_is image block at runs =
    let raw = chunks_of_kind kind.Raw block at runs in
    let fill = chunks_of_kind kind.Fill block at runs in
    let skip = chunks_of_kind kind.Skip block at runs in
    let crc = chunks_of_kind kind.Crc block at runs ∙ no_crc_chunks runs in
    rw (raw, fill, skip, crc) refl

-- ---- the law

read_of_runs : (image : List ℕ) (cover : List Span) (block : ℕ) (runs : List Run) →
    IsPowerBetween 4096 1048576 block → length image ≤ 2 ^ 43 →
    AreRunsOf image cover block (div_ceil (length image) block) runs →
    IsReadAs image cover block (text_of image block (div_ceil (length image) block) runs) runs
read_of_runs image cover block runs sized bounded h =
    let has = IsContent image cover block in
    let most = most_raw block in
    let end = div_ceil (length image) block in
    let text = text_of image block end runs in
    let above : 4096 ≤ block = sized.not_below in
    let below : block ≤ 1048576 = sized.not_above in
    let few = few_blocks (length image) block above below bounded in
    let short = few_runs has most 0 end runs h in
    let fits = all_fit image cover block 0 end runs (within_padded (length image) block above) few h in
    let stand = chunks_there image block end runs in
    let counted = all_counted has most 0 end runs h in
    let blocks = chunks_blocks block 28 runs in
    let sparse : IsSparse text (header_for image block runs) (chunks_of block 28 runs) = record {
      begins = header_there image block end runs (omega (arith, below)) few (omega (arith, few, short))
          (is_a_block block sized);
      stand = chunks_stand image text has most block 0 28 0 end runs h fits stand;
      count = chunks_long block 28 runs;
      blocks = omega (arith, blocks, counted);
    } in
    record {
      are_runs = h;
      sparse = sparse;
      view = (views_are_of_chunks text (view_for image block runs)).1
          (header_for image block runs, chunks_of block 28 runs, sparse, sym (view_is image block 28 runs));
      expands = record {
        blocks = omega (arith, blocks, counted);
        stored = all_stored image text cover block 28 0 end runs h fits stand;
        covered = λ b inside meets. all_covered image cover block 28 0 end runs b h (omega arith) inside meets;
      };
    }

pub sparse_text_is_read : SparseTextIsRead
sparse_text_is_read image cover block text sized bounded (runs, h, is) =
    let read = read_of_runs image cover block runs sized bounded h in
    (runs, subst (λ (xs : List ℕ). IsReadAs image cover block xs runs) (sym is) read)
