-- The blocks of an image, and what a sparse file says of each.
use Rattle.std.specs.Prelude.{◌≡◌, ℕ, ◌+◌, ◌*◌, ◌≤◌, List, ◌++◌, length, take, drop, replicate}
use Rattle.byteorder.specs.Endian.{little_number}
use Rattle.base_fields.specs.declared.spans.Span.{Span}
use Rattle.span_cover.specs.Cover.{Meets}
use Rattle.sparse_text.specs.declared.runs.Content.{Content}
use Rattle.sparse_text.specs.declared.runs.Content.TheVariants.{Skip, Fill, Raw}

-- an image with zeros behind it, so that its last block is whole
abbrev pub padded : List ℕ → ℕ → List ℕ
padded image block = image ++ replicate block 0

-- the bytes of a block
abbrev pub block_at : List ℕ → ℕ → ℕ → List ℕ
block_at image block b = take block (drop (b * block) (padded image block))

-- the offsets of a block
abbrev pub block_span : ℕ → ℕ → Span
block_span block b = record { at = b * block; len = block }

-- each word of 4 bytes is this one, its first byte the lowest
abbrev pub AreWords : List ℕ → ℕ → Type 0
AreWords bytes word = (i : ℕ) → 4 * i + 4 ≤ length bytes → little_number 4 (drop (4 * i) bytes) ≡ word

-- what bytes of a block that isn't don't care are
abbrev pub HasForm : List ℕ → Content → Type 0
HasForm bytes Skip = ⊥
HasForm bytes (Fill word) = AreWords bytes word
HasForm bytes Raw = (word : ℕ) → AreWords bytes word → ⊥

-- what a block is: don't care where it has no covered offset, be it in the zeros behind the image
abbrev pub IsContent : List ℕ → List Span → ℕ → ℕ → Content → Type 0
IsContent image cover block b Skip = Meets cover (block_span block b) → ⊥
IsContent image cover block b content = Meets cover (block_span block b) × HasForm (block_at image block b) content
