-- Stretches of blocks that have covered offsets, or none.
use Rattle.std.specs.Prelude.{ℕ, ◌+◌, ◌*◌, ◌<◌, ◌≤◌, List, Bool, true, false}
use Rattle.base_fields.specs.declared.spans.Span.{Span}
use Rattle.span_cover.specs.Cover.{Meets}
use Rattle.sparse_text.specs.Blocks.{block_span}

-- the offsets of so many blocks
abbrev pub blocks_span : ℕ → ℕ → ℕ → Span
blocks_span block first count = record { at = first * block; len = count * block }

-- each of so many blocks has a covered offset
abbrev pub AreMet : List Span → ℕ → ℕ → ℕ → Type 0
AreMet cover block first count = (b : ℕ) → first ≤ b → b < first + count → Meets cover (block_span block b)

-- none of them has one
abbrev pub AreBare : List Span → ℕ → ℕ → ℕ → Type 0
AreBare cover block first count = (b : ℕ) → first ≤ b → b < first + count → Meets cover (block_span block b) → ⊥

abbrev pub IsStretch : List Span → ℕ → ℕ → ℕ → Bool → Type 0
IsStretch cover block first count true = AreMet cover block first count
IsStretch cover block first count false = AreBare cover block first count
