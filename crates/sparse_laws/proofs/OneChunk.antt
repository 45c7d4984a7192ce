-- A chunk that is written is the one that is read.
use Rattle.std.proofs.Common.{◌≡◌, ℕ, ◌+◌, ◌%◌, ◌^◌, ◌<◌, ◌==◌, List, [], ◌∷◌, ◌++◌, length, true, Some, Ok, refl, ap, sym, ◌∙◌, append_assoc, append-nil, arith}
use Rattle.std.proofs.Math.Nat.{div-one}
use Rattle.std.proofs.lemmas.Bool.{eq-eqb}
use Rattle.byteorder.specs.Endian.{little_bytes, little_number}
use Rattle.byteorder.specs.Numbers.{little_from-bytes, little_number-reads_back}
use Rattle.base_fields.specs.Fields.{joined, number}
use Rattle.sparse_reader.specs.Chunks.{chunk_at, data_len, kind_of, may_have, tag_in, word_in}
use Rattle.sparse_reader.specs.Header.{number_in}
use Rattle.sparse_reader.specs.declared.chunk.Cursor.{Cursor}
use Rattle.sparse_reader.specs.declared.chunk.Tag.{Tag}
use Rattle.sparse_text.specs.Text.{chunk_text, data_of, kind_in, kind_number, tag_text}
use Rattle.sparse_text.specs.declared.runs.Content.{Content}
use Rattle.sparse_text.specs.declared.runs.Content.TheVariants.{Skip, Fill, Raw}
use Rattle.sparse_text.specs.declared.runs.Run.{Run}
use Rattle.sparse_laws.specs.Read.{chunk_of, data_size, word_of}
use Rattle.sparse_laws.proofs.Pieces.{Stands, long_enough, part_read, rest_there}

-- ---- its header

abbrev pub tag_of : Content → ℕ → Tag
tag_of content count = record { kind = kind_in content; count = count }

number_small : (content : Content) → kind_number content < 256 ^ 2
number_small Skip = omega arith
number_small (Fill word) = omega arith
number_small Raw = omega arith

number_known : (content : Content) → kind_of (kind_number content) ≡ Some (kind_in content)
number_known Skip = refl
number_known (Fill word) = refl
number_known Raw = refl

blocks_allowed : (content : Content) (count : ℕ) → may_have (kind_in content) count ≡ true
blocks_allowed Skip count = refl
blocks_allowed (Fill word) count = refl
blocks_allowed Raw count = refl

-- bytes with these numbers are the header
tag_with_numbers : (block count : ℕ) (content : Content) (head : List ℕ) →
    kind_of (number_in head 0 2) ≡ Some (kind_in content) →
    number_in head 4 4 ≡ count → number_in head 8 4 ≡ 12 + data_len (kind_in content) block count →
    tag_in block head ≡ Some (tag_of content count)
tag_with_numbers block count content head kind blocks total =
    let allowed = blocks_allowed content count in
    let same : (12 + data_len (kind_in content) block count == 12 + data_len (kind_in content) block count) ≡ true =
    eq-eqb _ _ refl in
    rw (kind, blocks, total, allowed, same) refl

pub tag_read : (block count : ℕ) (content : Content) → count < 256 ^ 4 →
    12 + data_len (kind_in content) block count < 256 ^ 4 →
    tag_in block (tag_text block content count) ≡ Some (tag_of content count)
tag_read block count content few short =
    let total = 12 + data_len (kind_in content) block count in
    let behind_count : List ℕ = joined (number 8 4 total ∷ []) in
    let behind_kind : List ℕ = joined (number 2 2 0 ∷ number 4 4 count ∷ number 8 4 total ∷ []) in
    let kind : number_in (tag_text block content count) 0 2 ≡ kind_number content =
    little_number-reads_back 2 (kind_number content) behind_kind (number_small content) in
    let blocks : number_in (tag_text block content count) 4 4 ≡ count =
    little_number-reads_back 4 count behind_count few in
    let sum : number_in (tag_text block content count) 8 4 ≡ total = little_number-reads_back 4 total [] short in
    tag_with_numbers block count content (tag_text block content count) (ap kind_of kind ∙ number_known content)
    blocks sum

-- ---- the chunk

abbrev pub cursor_at : ℕ → ℕ → ℕ → Cursor
cursor_at number at first = record { chunk = number; at = at; block = first }

-- what the numbers of a chunk have to be, so that their fields hold them
pub record FitsFields (image : List ℕ) (block : ℕ) (r : Run) : Type 0 where
  pub count : r.count < 256 ^ 4
  pub total : 12 + data_size block r < 256 ^ 4
  pub stored : length (data_of image block r.first r.count r.content) ≡ data_size block r

word_read : (image : List ℕ) (block first count : ℕ) (content : Content) →
    word_in (kind_in content) (data_of image block first count content) ≡ word_of content
word_read image block first count Skip = refl
word_read image block first count (Fill word) =
    ap (little_number 4) (sym (append-nil (little_bytes 4 word))) ∙ little_from-bytes 4 0 word []
    ∙ ap (λ (n : ℕ). n % 256 ^ 4) (div-one word)
word_read image block first count Raw = refl

-- the header stands in front of the data
pub tag_there : (image bytes rest : List ℕ) (block at : ℕ) (r : Run) → Stands bytes at (chunk_text image block r) rest →
    Stands bytes at (tag_text block r.content r.count) (data_of image block r.first r.count r.content ++ rest)
tag_there image bytes rest block at r h = record {
  within = h.within;
  there = h.there ∙ append_assoc (tag_text block r.content r.count) (data_of image block r.first r.count r.content)
      rest;
}

pub data_there : (image bytes rest : List ℕ) (block at : ℕ) (r : Run) →
    Stands bytes at (chunk_text image block r) rest →
    Stands bytes (at + 12) (data_of image block r.first r.count r.content) rest
data_there image bytes rest block at r h =
    let tag = tag_text block r.content r.count in
    let behind_it = data_of image block r.first r.count r.content ++ rest in
    let there = tag_there image bytes rest block at r h in
    record {
      within = long_enough bytes tag behind_it at 12 there refl;
      there = rest_there bytes tag behind_it at 12 there refl;
    }

-- the chunk at a cursor
pub chunk_read : (image bytes rest : List ℕ) (block number at : ℕ) (r : Run) → FitsFields image block r →
    Stands bytes at (chunk_text image block r) rest →
    chunk_at bytes block (cursor_at number at r.first) ≡ Ok (chunk_of at r)
chunk_read image bytes rest block number at r fits h =
    let tag = tag_text block r.content r.count in
    let stored = data_of image block r.first r.count r.content in
    let head = part_read bytes tag (stored ++ rest) at 12 (tag_there image bytes rest block at r h) refl in
    let says = tag_read block r.count r.content fits.count fits.total in
    let behind_it =
    part_read bytes stored rest (at + 12) (data_size block r) (data_there image bytes rest block at r h) fits.stored in
    let word = word_read image block r.first r.count r.content in
    rw (head, says, behind_it, word) refl
