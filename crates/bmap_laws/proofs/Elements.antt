-- The elements that are written, as the grammar reads them: the length of each opening tag with its `>`, and of each
-- closing tag, are numerals.
use Rattle.std.proofs.Common.{◌≡◌, ℕ, ◌+◌, ◌^◌, ◌<◌, List, ◌∷◌, ◌++◌, length, take, drop, decimal, codes, Option, Some, option_map}
use Rattle.std.proofs.Common.{ap, append_assoc, arith, length-append, refl, ◌∙◌}
use Rattle.hex.specs.Hex.{encode_lower}
use Rattle.bmap_grammar.specs.Items.{block_size_at, blocks_count_at, image_size_at, mapped_count_at, sized, sum_at, sum_in, type_at}
use Rattle.bmap_grammar.specs.Text.{◌>>=◌, digest_of}
use Rattle.bmap_grammar.specs.declared.items.Field.TheVariants as field
use Rattle.bmap_grammar.specs.declared.items.Held.{Held}
use Rattle.bmap_grammar.specs.declared.items.Item.TheVariants as item
use Rattle.bmap_grammar.specs.declared.items.Piece.{Piece}
use Rattle.bmap_laws.specs.Digests.{IsDigest}
use Rattle.bmap_laws.proofs.Digests.{digest_long, digest_plain, digest_read}
use Rattle.bmap_laws.proofs.Values.{IsElement, decimal_number, decimal_plain, decimal_some, element_held, number_read, value_there}

-- a value between an opening tag, with its space, and a closing one, with its space
abbrev pub around : List ℕ → List ℕ → List ℕ → List ℕ
around opening value closing = opening ++ (value ++ closing)

-- what stands behind the opening tag
behind : (value closing rest : List ℕ) → 32 ∷ ((value ++ closing) ++ rest) ≡ 32 ∷ (value ++ (closing ++ rest))
behind value closing rest = ap (λ (xs : List ℕ). 32 ∷ xs) (append_assoc value closing rest)

abbrev pub size_tag : List ℕ → List ℕ
size_tag value = around (codes "<ImageSize> ") value (codes " </ImageSize>")

abbrev pub block_tag : List ℕ → List ℕ
block_tag value = around (codes "<BlockSize> ") value (codes " </BlockSize>")

abbrev pub count_tag : List ℕ → List ℕ
count_tag value = around (codes "<BlocksCount> ") value (codes " </BlocksCount>")

abbrev pub mapped_tag : List ℕ → List ℕ
mapped_tag value = around (codes "<MappedBlocksCount> ") value (codes " </MappedBlocksCount>")

abbrev pub sum_tag : List ℕ → List ℕ
sum_tag value = around (codes "<BmapFileChecksum> ") value (codes " </BmapFileChecksum>")

abbrev pub type_tag : List ℕ
type_tag = codes "<ChecksumType> sha256 </ChecksumType>"

-- ---- numbers

size_element : (n : ℕ) (rest : List ℕ) → n < 2 ^ 64 →
    IsElement (codes "<ImageSize") (codes "</ImageSize") (size_tag (decimal n) ++ rest) (decimal n)
    (codes "/ImageSize>" ++ rest) 11 12
size_element n rest h = record {
  opens = refl;
  holds = behind (decimal n) (codes " </ImageSize>") rest;
  some = decimal_some n h;
  plain = decimal_plain n h;
  closes = refl;
}

pub size_found : (n : ℕ) (rest : List ℕ) → n < 2 ^ 64 →
    image_size_at (size_tag (decimal n) ++ rest)
    ≡ Some (sized (item.Number field.ImageSize n) (length (size_tag (decimal n))))
unfolding image_size_at
size_found n rest h =
    let both = length-append (decimal n) (codes " </ImageSize>") in
    number_read field.ImageSize (codes "<ImageSize") (codes "</ImageSize") (size_tag (decimal n) ++ rest) (decimal n)
    (codes "/ImageSize>" ++ rest) 11 12 n (size_element n rest h) (decimal_number n h)
    ∙ ap (λ (k : ℕ). Some (sized (item.Number field.ImageSize n) k)) (omega (arith, both))

block_element : (n : ℕ) (rest : List ℕ) → n < 2 ^ 64 →
    IsElement (codes "<BlockSize") (codes "</BlockSize") (block_tag (decimal n) ++ rest) (decimal n)
    (codes "/BlockSize>" ++ rest) 11 12
block_element n rest h = record {
  opens = refl;
  holds = behind (decimal n) (codes " </BlockSize>") rest;
  some = decimal_some n h;
  plain = decimal_plain n h;
  closes = refl;
}

pub block_found : (n : ℕ) (rest : List ℕ) → n < 2 ^ 64 →
    block_size_at (block_tag (decimal n) ++ rest)
    ≡ Some (sized (item.Number field.BlockSize n) (length (block_tag (decimal n))))
unfolding block_size_at
block_found n rest h =
    let both = length-append (decimal n) (codes " </BlockSize>") in
    number_read field.BlockSize (codes "<BlockSize") (codes "</BlockSize") (block_tag (decimal n) ++ rest) (decimal n)
    (codes "/BlockSize>" ++ rest) 11 12 n (block_element n rest h) (decimal_number n h)
    ∙ ap (λ (k : ℕ). Some (sized (item.Number field.BlockSize n) k)) (omega (arith, both))

count_element : (n : ℕ) (rest : List ℕ) → n < 2 ^ 64 →
    IsElement (codes "<BlocksCount") (codes "</BlocksCount") (count_tag (decimal n) ++ rest) (decimal n)
    (codes "/BlocksCount>" ++ rest) 13 14
count_element n rest h = record {
  opens = refl;
  holds = behind (decimal n) (codes " </BlocksCount>") rest;
  some = decimal_some n h;
  plain = decimal_plain n h;
  closes = refl;
}

pub count_found : (n : ℕ) (rest : List ℕ) → n < 2 ^ 64 →
    blocks_count_at (count_tag (decimal n) ++ rest)
    ≡ Some (sized (item.Number field.BlocksCount n) (length (count_tag (decimal n))))
unfolding blocks_count_at
count_found n rest h =
    let both = length-append (decimal n) (codes " </BlocksCount>") in
    number_read field.BlocksCount (codes "<BlocksCount") (codes "</BlocksCount") (count_tag (decimal n) ++ rest)
    (decimal n) (codes "/BlocksCount>" ++ rest) 13 14 n (count_element n rest h) (decimal_number n h)
    ∙ ap (λ (k : ℕ). Some (sized (item.Number field.BlocksCount n) k)) (omega (arith, both))

mapped_element : (n : ℕ) (rest : List ℕ) → n < 2 ^ 64 →
    IsElement (codes "<MappedBlocksCount") (codes "</MappedBlocksCount") (mapped_tag (decimal n) ++ rest) (decimal n)
    (codes "/MappedBlocksCount>" ++ rest) 19 20
mapped_element n rest h = record {
  opens = refl;
  holds = behind (decimal n) (codes " </MappedBlocksCount>") rest;
  some = decimal_some n h;
  plain = decimal_plain n h;
  closes = refl;
}

pub mapped_found : (n : ℕ) (rest : List ℕ) → n < 2 ^ 64 →
    mapped_count_at (mapped_tag (decimal n) ++ rest)
    ≡ Some (sized (item.Number field.MappedBlocksCount n) (length (mapped_tag (decimal n))))
unfolding mapped_count_at
mapped_found n rest h =
    let both = length-append (decimal n) (codes " </MappedBlocksCount>") in
    number_read field.MappedBlocksCount (codes "<MappedBlocksCount") (codes "</MappedBlocksCount")
    (mapped_tag (decimal n) ++ rest) (decimal n) (codes "/MappedBlocksCount>" ++ rest) 19 20 n
    (mapped_element n rest h) (decimal_number n h)
    ∙ ap (λ (k : ℕ). Some (sized (item.Number field.MappedBlocksCount n) k)) (omega (arith, both))

-- ---- the sum and its kind

pub type_found : (rest : List ℕ) → type_at (type_tag ++ rest) ≡ Some (sized item.ChecksumType (length type_tag))
unfolding type_at
type_found rest = refl

sum_element : (digest rest : List ℕ) → IsDigest digest →
    IsElement (codes "<BmapFileChecksum") (codes "</BmapFileChecksum") (sum_tag (encode_lower digest) ++ rest)
    (encode_lower digest) (codes "/BmapFileChecksum>" ++ rest) 18 19
sum_element digest rest h =
    let long = digest_long digest h in
    record {
      opens = refl;
      holds = behind (encode_lower digest) (codes " </BmapFileChecksum>") rest;
      some = omega (arith, long);
      plain = digest_plain digest h;
      closes = refl;
    }

-- a held value that is a digest's digits
sum_held : (text value digest : List ℕ) (k len : ℕ) → take (length value) (drop (k + 1) text) ≡ value →
    digest_of value ≡ Some digest →
    sum_in text (record { at = k + 1; count = length value; len = len })
    ≡ Some (sized (item.Checksum (k + 1) digest) len)
sum_held text value digest k len there is =
    let made : Option (List ℕ) → Option Piece = λ o. option_map (λ d. sized (item.Checksum (k + 1) d) len) o in
    ap (λ (xs : List ℕ). made (digest_of xs)) there ∙ ap made is

pub sum_found : (digest rest : List ℕ) → IsDigest digest →
    sum_at (sum_tag (encode_lower digest) ++ rest)
    ≡ Some (sized (item.Checksum 19 digest) (length (sum_tag (encode_lower digest))))
unfolding sum_at
sum_found digest rest h =
    let value = encode_lower digest in
    let text : List ℕ = sum_tag value ++ rest in
    let tail : List ℕ = codes "/BmapFileChecksum>" ++ rest in
    let element = sum_element digest rest h in
    let both = length-append value (codes " </BmapFileChecksum>") in
    ap (λ (o : Option Held). o >>= sum_in text)
    (element_held (codes "<BmapFileChecksum") (codes "</BmapFileChecksum") text value tail 18 19 element)
    ∙ (sum_held text value digest 18 (18 + (length value + 2 + 19))
    (value_there text value (32 ∷ 60 ∷ tail) 18 element.holds) (digest_read digest h)
    ∙ ap (λ (k : ℕ). Some (sized (item.Checksum 19 digest) k)) (omega (arith, both)))
