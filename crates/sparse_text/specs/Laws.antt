-- The laws of the sparse file of an image.
use Rattle.std.specs.Prelude.{◌≡◌, ℕ, ◌+◌, ◌*◌, ◌<◌, ◌≤◌, List, length}
use Rattle.std.specs.Int.{div_ceil}
use Rattle.std.specs.List.{Any, sum_by}
use Rattle.base_fields.specs.declared.spans.Span.{Span}
use Rattle.sparse_text.specs.Blocks.{IsContent}
use Rattle.sparse_text.specs.Runs.{Shows}
use Rattle.sparse_text.specs.Text.{AreRunsOf, IsSparseText}
use Rattle.sparse_text.specs.declared.runs.Run.{Run}

-- there is one list of maximal runs
abbrev pub OneListOfRuns : Type 0
OneListOfRuns = (image : List ℕ) (cover : List Span) (block blocks : ℕ) (runs others : List Run) →
    4 ≤ block → blocks * block ≤ length image + block → AreRunsOf image cover block blocks runs → AreRunsOf image cover block blocks others → runs ≡ others

-- there is one sparse file
abbrev pub OneSparseText : Type 0
OneSparseText = (image : List ℕ) (cover : List Span) (block : ℕ) (text other : List ℕ) →
    4 ≤ block → IsSparseText image cover block text → IsSparseText image cover block other → text ≡ other

-- the chunks have as many blocks as the padded image, and each block is in one that says what it is; so a block with a
-- covered offset is in a raw or a fill chunk, whose blocks are the image's
pub record Expands (image : List ℕ) (cover : List Span) (block : ℕ) (runs : List Run) : Type 0 where
  pub blocks : sum_by (λ r. r.count) runs ≡ div_ceil (length image) block
  pub shown : (b : ℕ) → b < div_ceil (length image) block → Any (Shows (IsContent image cover block) b) runs

abbrev pub RunsExpand : Type 0
RunsExpand = (image : List ℕ) (cover : List Span) (block : ℕ) (runs : List Run) →
    AreRunsOf image cover block (div_ceil (length image) block) runs → Expands image cover block runs
