-- The blocks of chunks are the image's.
use Rattle.std.proofs.Common.{◌≡◌, ℕ, zero, suc, ◌+◌, ◌-◌, ◌*◌, ◌^◌, ◌<◌, ◌≤◌, List, [], ◌∷◌, ◌++◌, length, take, drop, replicate, slice_index, refl, ap, subst, sym, ◌∙◌, arith, inl, inr}
use Rattle.std.proofs.Math.ListN.{get_or-eq_default}
use Rattle.std.proofs.Math.Nat.{add-mul, mod-eq_of_lt, mul-le-mul_right}
use Rattle.std.proofs.lemmas.Bool.{cases_lt}
use Rattle.std.proofs.lemmas.List.{drop-append-le, drop-drop, drop-take, get_or-append_right, get_or-drop, get_or-take, get_or_append_left, length-drop, length-take, take-append-le, take-take}
use Rattle.std.specs.List.{AllByRecursion, Any}
use Rattle.byteorder.specs.Numbers.{little_from-lt}
use Rattle.base_fields.specs.declared.spans.Span.{Span}
use Rattle.span_cover.specs.Cover.{Meets}
use Rattle.sparse_text.specs.Blocks.{HasForm, IsContent, block_at, block_span, padded}
use Rattle.sparse_text.specs.Runs.{AreRuns}
use Rattle.sparse_text.specs.Text.{data_of, kind_in, most_raw}
use Rattle.sparse_text.specs.declared.runs.Content.{Content}
use Rattle.sparse_text.specs.declared.runs.Content.TheVariants.{Skip, Fill, Raw}
use Rattle.sparse_text.specs.declared.runs.Run.{Run}
use Rattle.sparse_laws.specs.Expands.{AreBytes, HasBlocks, IsData, IsStoredBy, Stores}
use Rattle.sparse_laws.specs.Read.{chunk_of, chunks_of, data_size, word_of}
use Rattle.sparse_laws.proofs.Chunks.{TextsStand, first_stands, rest_stand, texts}
use Rattle.sparse_laws.proofs.OneChunk.{FitsFields, data_there}
use Rattle.sparse_laws.proofs.Pieces.{Stands}

-- ---- the bytes of an image

zeros : (n k : ℕ) → slice_index (replicate {A = ℕ} n 0) k ≡ zero
zeros zero k = refl
zeros (suc n) zero = refl
zeros (suc n) (suc k) = zeros n k

padded_bytes : (image : List ℕ) (block : ℕ) → AreBytes image → AreBytes (padded image block)
padded_bytes image block are k = elim (cases_lt k (length image)) [
  | inl inside ↦
      let is = get_or_append_left image (replicate block 0) 0 k inside in
      let small = are k in
      omega (arith, is, small)
  | inr past ↦
      let is = get_or-append_right image (replicate block 0) (length image) k 0 refl past in
      let none = zeros block (k - length image) in
      omega (arith, is, none)
]

pub block_bytes : (image : List ℕ) (block b : ℕ) → AreBytes image → AreBytes (block_at image block b)
block_bytes image block b are k = elim (cases_lt k block) [
  | inl inside ↦
      let taken = get_or-take block (drop (b * block) (padded image block)) k 0 inside in
      let moved = get_or-drop (b * block) (padded image block) k 0 in
      let small = padded_bytes image block are (b * block + k) in
      omega (arith, taken, moved, small)
  | inr past ↦
      let long = length-take block (drop (b * block) (padded image block)) in
      let none = get_or-eq_default (block_at image block b) 0 {n = k} (omega (arith, long, past)) in
      omega (arith, none)
]

-- the word of a block of bytes
word_small : (bytes : List ℕ) (word : ℕ) → AreBytes bytes → 4 ≤ length bytes → HasForm bytes (Fill word) →
    word < 256 ^ 4
word_small bytes word are long h =
    let small = little_from-lt 0 4 bytes are in
    let is = h 0 long in
    subst (λ (n : ℕ). n < 256 ^ 4) is small

-- ---- a block of a raw chunk

-- a block of the data, with whatever stands behind them
block_of_data : (whole rest : List ℕ) (block first count i : ℕ) → i < count →
    length (take (count * block) (drop (first * block) whole)) ≡ count * block →
    take block (drop (i * block) (take (count * block) (drop (first * block) whole) ++ rest))
    ≡ take block (drop ((first + i) * block) whole)
block_of_data whole rest block first count i inside long =
    let from = drop (first * block) whole in
    let stored = take (count * block) from in
    let up_to : (i + 1) * block ≤ count * block = mul-le-mul_right block (omega (arith, inside)) in
    let one_more : (i + 1) * block ≡ i * block + 1 * block = add-mul i 1 block in
    let before : i * block ≤ length stored = omega (arith, up_to, one_more, long) in
    let left = length-drop (i * block) stored in
    let others = count * block - i * block in
    let all : count * block ≡ i * block + others = omega (arith, up_to, one_more) in
    let place : first * block + i * block ≡ (first + i) * block = sym (add-mul first i block) in
    ap (λ (xs : List ℕ). take block xs) (drop-append-le (i * block) stored rest before)
    ∙ take-append-le block (drop (i * block) stored) rest (omega (arith, left, long, up_to, one_more))
    ∙ ap (λ (n : ℕ). take block (drop (i * block) (take n from))) all
    ∙ ap (λ (xs : List ℕ). take block xs) (drop-take (i * block) others from)
    ∙ take-take block others (drop (i * block) from) (omega (arith, up_to, one_more))
    ∙ ap (λ (xs : List ℕ). take block xs) (drop-drop (i * block) (first * block) whole)
    ∙ ap (λ (n : ℕ). take block (drop n whole)) place

-- the same in a file where the data stand
block_in_file : (image bytes rest : List ℕ) (block at first count i : ℕ) → i < count →
    length (data_of image block first count Raw) ≡ count * block →
    Stands bytes at (data_of image block first count Raw) rest →
    take block (drop (at + i * block) bytes) ≡ block_at image block (first + i)
block_in_file image bytes rest block at first count i inside long h =
    ap (λ (xs : List ℕ). take block xs) (sym (drop-drop (i * block) at bytes))
    ∙ ap (λ (xs : List ℕ). take block (drop (i * block) xs)) h.there
    ∙ block_of_data (padded image block) rest block first count i inside long

-- ---- the blocks of a chunk

stored_by : (image bytes rest : List ℕ) (cover : List Span) (block at first count i : ℕ) (content : Content) →
    i < count →
    length (data_of image block first count content) ≡ data_size block
    (record { first = first; count = count; content = content }) →
    Stands bytes at (data_of image block first count content) rest → IsContent image cover block (first + i) content →
    IsStoredBy (kind_in content) (take block (drop (at + i * block) bytes)) (word_of content)
    (block_at image block (first + i))
stored_by image bytes rest cover block at first count i Skip inside long h is = tt
stored_by image bytes rest cover block at first count i (Fill word) inside long h is = λ are k within.
    let small = word_small (block_at image block (first + i)) word are (omega (arith, within)) is.1 in
    is.1 k within ∙ sym (mod-eq_of_lt small)
stored_by image bytes rest cover block at first count i Raw inside long h is =
    block_in_file image bytes rest block at first count i inside long h

pub all_stored : (image bytes : List ℕ) (cover : List Span) (block at first end : ℕ) (runs : List Run) →
    AreRuns (IsContent image cover block) (most_raw block) first end runs →
    AllByRecursion (FitsFields image block) runs → TextsStand image bytes block at runs →
    AllByRecursion (HasBlocks bytes image block) (chunks_of block at runs)
all_stored image bytes cover block at first end [] h fits there = tt
all_stored image bytes cover block at first end (r ∷ rest) h fits there =
    let data_stand =
    data_there image bytes (texts image block rest) block at r (first_stands image bytes block at r rest there) in
    let begins = h.0.begins in (
      λ i inside.
          stored_by image bytes (texts image block rest) cover block (at + 12) r.first r.count i r.content inside
          fits.0.stored data_stand
          (h.0.alike (r.first + i) (omega (arith, begins)) (omega (arith, begins, inside))),
      all_stored image bytes cover block (at + (12 + data_size block r)) (first + r.count) end rest h.2 fits.1
          (rest_stand image bytes block at r rest fits.0 there),
    )

-- ---- the blocks with a covered offset

is_data : (image : List ℕ) (cover : List Span) (block b : ℕ) (content : Content) → Meets cover (block_span block b) →
    IsContent image cover block b content → IsData (kind_in content)
is_data image cover block b Skip meets is = absurd (is meets)
is_data image cover block b (Fill word) meets is = tt
is_data image cover block b Raw meets is = tt

pub all_covered : (image : List ℕ) (cover : List Span) (block at first end : ℕ) (runs : List Run) (b : ℕ) →
    AreRuns (IsContent image cover block) (most_raw block) first end runs → first ≤ b → b < end →
    Meets cover (block_span block b) → Any (Stores b) (chunks_of block at runs)
all_covered image cover block at first end [] b h not_before before meets =
    absurd (omega (arith, h, not_before, before))
all_covered image cover block at first end (r ∷ rest) b h not_before before meets =
    elim (cases_lt b (first + r.count)) [
      | inl inside ↦
          let begins = h.0.begins in (
            0,
            chunk_of at r,
            omega arith,
            refl,
            (
              omega (arith, begins, not_before),
              omega (arith, begins, inside),
              is_data image cover block b r.content
                  meets (h.0.alike b not_before inside),
            ),
          )
      | inr past ↦
          let there =
          all_covered image cover block (at + (12 + data_size block r)) (first + r.count) end rest b h.2 past before
          meets in
          let below = there.2 in
          (suc there.0, there.1, omega (arith, below), there.3, there.4)
    ]
