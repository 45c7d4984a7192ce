-- The chunks of an image fit their fields.
use Rattle.std.proofs.Common.{◌≡◌, ℕ, ◌+◌, ◌*◌, ◌/◌, ◌^◌, ◌<◌, ◌≤◌, List, [], ◌∷◌, length, take, drop, replicate, refl, arith}
use Rattle.std.proofs.Math.Nat.{add-mul, div-mul-le_self, mul-le-mul_left, mul-le-mul_right}
use Rattle.std.proofs.lemmas.Grind.{div_ceil_times}
use Rattle.std.proofs.lemmas.List.{length-append, length-drop, length-replicate, length-take-le}
use Rattle.std.specs.Int.{div_ceil}
use Rattle.base_fields.specs.declared.spans.Span.{Span}
use Rattle.sparse_text.specs.Blocks.{IsContent, padded}
use Rattle.sparse_text.specs.Runs.{AreRuns, IsRun}
use Rattle.sparse_text.specs.Text.{most_raw}
use Rattle.sparse_text.specs.declared.runs.Content.{Content}
use Rattle.sparse_text.specs.declared.runs.Content.TheVariants.{Skip, Fill, Raw}
use Rattle.sparse_text.specs.declared.runs.Run.{Run}
use Rattle.sparse_laws.proofs.OneChunk.{FitsFields}

-- ---- how many there are

-- the blocks of an image
pub few_blocks : (size block : ℕ) → 4096 ≤ block → block ≤ 1048576 → size ≤ 2 ^ 43 → div_ceil size block < 256 ^ 4
few_blocks size block above below bounded =
    let whole = div_ceil_times size block (omega (arith, above)) in
    let within : div_ceil size block * block < size + block = whole.1 in
    let least : div_ceil size block * 4096 ≤ div_ceil size block * block =
    mul-le-mul_left (div_ceil size block) above in
    omega (arith, within, least, below, bounded)

pub within_padded : (size block : ℕ) → 4096 ≤ block → div_ceil size block * block ≤ size + block
within_padded size block above =
    let whole = div_ceil_times size block (omega (arith, above)) in
    let within : div_ceil size block * block < size + block = whole.1 in
    omega (arith, within)

-- each run has a block
pub few_runs : (has : ℕ → Content → Type 0) (most first end : ℕ) (runs : List Run) → AreRuns has most first end runs →
    first + length runs ≤ end
few_runs has most first end [] h = omega (arith, h)
few_runs has most first end (r ∷ rest) h =
    let more = few_runs has most (first + r.count) end rest h.2 in
    let some = h.0.some in
    omega (arith, more, some)

-- so many blocks of the padded image
padded_long : (image : List ℕ) (block first count : ℕ) → (first + count) * block ≤ length image + block →
    length (take (count * block) (drop (first * block) (padded image block))) ≡ count * block
padded_long image block first count within =
    let both = add-mul first count block in
    let padding = length-append image (replicate block 0) in
    let zeros_long = length-replicate {A = ℕ} block 0 in
    let left = length-drop (first * block) (padded image block) in
    length-take-le (count * block) (drop (first * block) (padded image block))
    (omega (arith, both, padding, zeros_long, left, within))

-- ---- the fields of a chunk

abbrev FitsOf : List ℕ → ℕ → ℕ → ℕ → Content → Type 0
FitsOf image block first count content =
    FitsFields image block (record { first = first; count = count; content = content })

fits_of : (image : List ℕ) (block first count : ℕ) (content : Content) →
    (first + count) * block ≤ length image + block → count < 256 ^ 4 →
    (content ≡ Raw → count ≤ most_raw block) → FitsOf image block first count content
fits_of image block first count Skip within few short = record { count = few; total = omega arith; stored = refl }
fits_of image block first count (Fill word) within few short =
    record { count = few; total = omega arith; stored = refl }
fits_of image block first count Raw within few short =
    let most = short refl in
    let product : count * block ≤ 2 ^ 30 / block * block = mul-le-mul_right block most in
    let bounded = div-mul-le_self (2 ^ 30) block in
    record { count = few; total = omega (arith, product, bounded); stored = padded_long image block first count within }

-- each run of an image
pub run_fits : (image : List ℕ) (cover : List Span) (block first end : ℕ) (r : Run) →
    end * block ≤ length image + block → end < 256 ^ 4 →
    first + r.count ≤ end → IsRun (IsContent image cover block) (most_raw block) first r → FitsFields image block r
run_fits image cover block first end r within few inside is =
    let begins = is.begins in
    let up_to : (r.first + r.count) * block ≤ end * block = mul-le-mul_right block (omega (arith, begins, inside)) in
    fits_of image block r.first r.count r.content (omega (arith, up_to, within)) (omega (arith, few, inside)) is.short
