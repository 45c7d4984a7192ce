-- One stretch of blocks more.
use Rattle.std.proofs.Common.{◌≡◌, ℕ, ◌+◌, ◌-◌, ◌*◌, ◌/◌, ◌^◌, ◌<◌, ◌≤◌, List, [], ◌++◌, take, drop, replicate, min, Option, unwrap_or, Result, Ok, Err, IfErr, OnOk, refl, ap, subst, sym, ◌∙◌, arith, inl, inr}
use Rattle.std.specs.Int.{div_ceil}
use Rattle.std.proofs.Math.Nat.{add-mul, mul-le-mul_right}
use Rattle.std.proofs.lemmas.Bool.{cases_lt}
use Rattle.std.proofs.lemmas.Grind.{div_ceil_times}
use Rattle.base_fields.specs.declared.spans.Span.{Span}
use Rattle.outside.proofs.WriteLemmas.{ok_and}
use Rattle.outside.specs.declared.files.ComposeFault.{ComposeFault}
use Rattle.outside.specs.declared.files.ComposeFault.TheVariants.{Missing, FileFault, SourceShort, NoMemory}
use Rattle.sparse_chunks.specs.Progress.{IsWritten, done_after}
use Rattle.sparse_chunks.specs.declared.progress.Progress.{Progress}
use Rattle.sparse_cover.specs.Stretches.{AreBare, AreMet}
use Rattle.sparse_text.specs.Blocks.{padded}
use Rattle.sparse_windows.specs.Windows.{HasNeeded, ReadsWindow, sized}
use Rattle.sparse_writer.specs.Answers.{GoesOn, IsOfWriting, IsRefusal, IsSoFar}
use Rattle.sparse_writer.proofs.Needed.{block_before, block_not_before, span_there, window_needed, window_refused}
use Rattle.sparse_writer.proofs.Sizes.{window_bytes}

-- a refusal of a write says nothing of the source
pub of_writing : (cover : List Span) (block size : ℕ) (from : Option (List ℕ)) (fault : ComposeFault) → IsOfWriting fault → IsRefusal cover block size from fault
of_writing cover block size from (Missing part) h = absurd h
of_writing cover block size from (SourceShort part at) h = absurd h
of_writing cover block size from FileFault h = tt
of_writing cover block size from NoMemory h = tt

-- blocks that no covered offset has need no byte
bare_needed : (cover : List Span) (block size first count end : ℕ) (bytes : List ℕ) → 0 < block → AreBare cover block first count → end ≤ first + count →
    HasNeeded cover block size (first * block) bytes → HasNeeded cover block size (end * block) bytes
bare_needed cover block size first count end bytes some bare within before o below needed = elim (cases_lt o (first * block)) [
  | inl old ↦ before o old needed
  | inr new ↦
      let fits : end * block ≤ (first + count) * block = mul-le-mul_right block within in
      absurd (bare (o / block) (block_not_before o block first some (omega (arith, new))) (block_before o block (first + count) some (omega (arith, below, fits))) needed.1)
]

abbrev pub Carries : (List Span → Type 0) → ℕ → Progress → List ℕ → Progress → List ℕ → Type 0
Carries asks block p old q new = (image : List ℕ) (cover : List Span) → asks cover → IsWritten image cover block p old → IsWritten image cover block q new

pub bare_goes : (cover : List Span) (block size count : ℕ) (from : Option (List ℕ)) (p q : Progress) (old new : List ℕ) (result : Result Unit ComposeFault) → 0 < block →
    AreBare cover block (done_after p.last) count → OnOk result (done_after q.last ≤ done_after p.last + count) → IfErr result IsOfWriting →
    OnOk result (Carries (λ c. AreBare c block (done_after p.last) count) block p old q new) → GoesOn cover block size from p old q new result
bare_goes cover block size count from p q old new (Ok done) some bare within refused carries = λ (needed, text).
    (bare_needed cover block size (done_after p.last) count (done_after q.last) (unwrap_or from []) some bare within needed, carries (sized size (unwrap_or from [])) cover bare text)
bare_goes cover block size count from p q old new (Err fault) some bare within refused carries = λ needed. of_writing cover block size from fault refused

-- a stretch begins within the image, and ends within its last block
pub within_image : (size block first count : ℕ) → 0 < block → 0 < count → first + count ≤ div_ceil size block → (first * block < size) × (first * block + count * block ≤ size + block)
within_image size block first count some more within =
    let near = (div_ceil_times size block some).1 in
    let fits : (first + count) * block ≤ div_ceil size block * block = mul-le-mul_right block within in
    let parts = add-mul first count block in
    let one : 1 * block ≤ count * block = mul-le-mul_right block (omega (arith, more)) in
    (omega (arith, near, fits, parts, one), omega (arith, near, fits, parts))

-- blocks that are read and written
pub covered_ok : (cover : List Span) (block size count first : ℕ) (from : Option (List ℕ)) (p q : Progress) (old new window : List ℕ) → 0 < block → 0 < count →
    first ≡ done_after p.last → first + count ≤ div_ceil size block → AreMet cover block first count → done_after q.last ≡ first + count →
    ReadsWindow from (first * block) (min (count * block) (size - first * block)) (count * block) window (Ok tt) →
    ((image : List ℕ) (c : List Span) → AreMet c block first count → window ≡ take (count * block) (drop (first * block) (padded image block)) →
    IsWritten image c block p old → IsWritten image c block q new) →
    IsSoFar cover block size from p old → IsSoFar cover block size from q new
covered_ok cover block size count first from p q old new window some more is_first within met done reads carries (needed, text) =
    let at = first * block in
    let n = count * block in
    let len = min n (size - at) in
    let bytes = unwrap_or from [] in
    let (begins, ends) = within_image size block first count some more within in
    let one : 1 * block ≤ n = mul-le-mul_right block (omega (arith, more)) in
    let (read, (found, got)) = ok_and _ _ reads in
    let (there, inside, is) = span_there from at len read (omega (arith, begins, one, some)) found in
    let whole : window ≡ take n (drop at (padded (sized size bytes) block)) =
    got ∙ ap (λ (xs : List ℕ). xs ++ replicate (n - len) 0) is ∙ window_bytes size at n len block bytes refl (omega (arith, begins)) inside ends in
    let before = subst (λ (m : ℕ). HasNeeded cover block size (m * block) bytes) (sym is_first) needed in
    let after = window_needed cover block size first count len bytes refl inside before in
    (subst (λ (m : ℕ). HasNeeded cover block size (m * block) bytes) (sym done) after, carries (sized size bytes) cover met whole text)

-- the same at a place that is that of the first block
pub refused_at : (cover : List Span) (block size first count at n : ℕ) (from : Option (List ℕ)) (got : List ℕ) (fault : ComposeFault) → 0 < block → 0 < count →
    first + count ≤ div_ceil size block → at ≡ first * block → n ≡ count * block → AreMet cover block first count →
    ReadsWindow from at (min n (size - at)) n got (Err fault) → HasNeeded cover block size (first * block) (unwrap_or from []) → IsRefusal cover block size from fault
refused_at cover block size first count at n from got fault some more within place long met h needed =
    let (begins, ends) = within_image size block first count some more within in
    let one : 1 * block ≤ count * block = mul-le-mul_right block (omega (arith, more)) in
    let reads = subst (λ (o : ℕ). ReadsWindow from o (min n (size - o)) n got (Err fault)) place h in
    window_refused cover block size first count (min n (size - first * block)) n from got fault some (omega (arith, begins, one, some, long)) (ap (λ (m : ℕ). min m (size - first * block)) long) met needed reads

pub covered_at : (cover : List Span) (block size count first at n : ℕ) (from : Option (List ℕ)) (p q : Progress) (old new window : List ℕ) → 0 < block → 0 < count →
    first ≡ done_after p.last → first + count ≤ div_ceil size block → at ≡ first * block → n ≡ count * block → AreMet cover block first count → done_after q.last ≡ first + count →
    ReadsWindow from at (min n (size - at)) n window (Ok tt) →
    ((image : List ℕ) (c : List Span) → AreMet c block first count → window ≡ take (count * block) (drop (first * block) (padded image block)) →
    IsWritten image c block p old → IsWritten image c block q new) →
    IsSoFar cover block size from p old → IsSoFar cover block size from q new
covered_at cover block size count first at n from p q old new window some more is_first within place long met done h carries =
    let reads = subst (λ (o : ℕ). ReadsWindow from o (min n (size - o)) n window (Ok tt)) place h in
    let sized_reads = subst (λ (m : ℕ). ReadsWindow from (first * block) (min m (size - first * block)) m window (Ok tt)) long reads in
    covered_ok cover block size count first from p q old new window some more is_first within met done sized_reads carries

-- the blocks that are left end near the image
pub stretch_fits : (size block first : ℕ) → 0 < block → first < div_ceil size block → size ≤ 2 ^ 43 → block ≤ 2 ^ 20 →
    first * block + (div_ceil size block - first) * block ≤ 2 ^ 44
stretch_fits size block first some before small least =
    let near = (within_image size block first (div_ceil size block - first) some (omega (arith, before)) (omega (arith, before))).1 in
    omega (arith, near, small, least)
