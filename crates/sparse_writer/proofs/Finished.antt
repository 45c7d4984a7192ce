-- The whole file.
use Rattle.std.proofs.Common.{◌≡◌, ℕ, ◌+◌, ◌*◌, ◌<◌, List, [], ◌++◌, length, drop, None, refl, ap, subst, sym, ◌∙◌, append-nil, arith}
use Rattle.std.specs.Int.{div_ceil}
use Rattle.std.proofs.lemmas.Grind.{common_steps, div_ceil_times}
use Rattle.base_fields.specs.declared.spans.Span.{Span}
use Rattle.base_fields.specs.Fields.{written}
use Rattle.sparse_chunks.specs.Progress.{IsWritten, chunks_text, done_after}
use Rattle.sparse_chunks.specs.declared.progress.Progress.{Progress}
use Rattle.sparse_text.specs.Text.{AreRunsOf, IsSparseText, header_text}
use Rattle.sparse_windows.specs.Windows.{HasNeeded, sized}
use Rattle.sparse_writer.proofs.Sizes.{sized_long}

-- a file with a header alone
pub none_written : (image : List ℕ) (cover : List Span) (block : ℕ) (bytes : List ℕ) → 28 ≡ length bytes → IsWritten image cover block (record { chunks = 0; last = None }) bytes
none_written image cover block bytes long = (
  bytes,
  [],
  record {
    header = sym long;
    are_runs = refl;
    are_bytes = sym (append-nil bytes);
    count = refl;
    last = refl;
  },
)

-- the header over the bytes that stand in its place
header_over : (head new rest : List ℕ) → length head ≡ 28 → length new ≡ 28 → written (head ++ rest) 0 new ≡ new ++ rest
header_over head new rest old long =
    let same : length new ≡ length head = long ∙ sym old in
    let gone : drop (0 + length new) (head ++ rest) ≡ rest = search (arith, common_steps) in
    ap (λ (xs : List ℕ). new ++ xs) gone

pub finished : (size : ℕ) (bytes given : List ℕ) (cover : List Span) (block : ℕ) (p : Progress) → done_after p.last ≡ div_ceil size block →
    IsWritten (sized size given) cover block p bytes →
    IsSparseText (sized size given) cover block (written bytes 0 (header_text block (div_ceil size block) p.chunks))
finished size bytes given cover block p done (head, runs, h) =
    let image = sized size given in
    let blocks = div_ceil size block in
    let long = sized_long size given in
    let end : done_after p.last ≡ div_ceil (length image) block = done ∙ ap (λ (n : ℕ). div_ceil n block) (sym long) in
    let all = subst (λ (n : ℕ). AreRunsOf image cover block n runs) end h.are_runs in (
      runs,
      all,
      ap (λ (xs : List ℕ). written xs 0 (header_text block blocks p.chunks)) h.are_bytes
          ∙ header_over head (header_text block blocks p.chunks) (chunks_text image block runs) h.header refl
          ∙ ap (λ (n : ℕ). header_text block blocks n ++ chunks_text image block runs) (sym h.count)
          ∙ ap (λ (n : ℕ). header_text block (div_ceil n block) (length runs) ++ chunks_text image block runs) (sym long),
    )

-- each needed byte is below the last block's end
pub all_needed : (cover : List Span) (block size : ℕ) (bytes : List ℕ) → 0 < block → HasNeeded cover block size (div_ceil size block * block) bytes → HasNeeded cover block size size bytes
all_needed cover block size bytes some h o below needed =
    let fits = (div_ceil_times size block some).0 in
    h o (omega (arith, below, fits)) needed
