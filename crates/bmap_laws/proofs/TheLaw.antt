-- The text that is written for a map is a document of it.
use Rattle.std.proofs.Common.{◌≡◌, ℕ, ◌+◌, List, [], ◌∷◌, ◌++◌, length, map, replicate, codes, Result, Ok}
use Rattle.std.proofs.Common.{ap, arith, length-append, subst, sym, ◌∙◌}
use Rattle.hex.specs.Hex.{encode_lower}
use Rattle.sha2.specs.Sha256.{sha256}
use Rattle.base_fields.specs.Results.{◌>>=◌}
use Rattle.block_map.specs.Maps.{IsMap, block_count}
use Rattle.block_map.specs.declared.maps.BlockMap.{BlockMap}
use Rattle.block_map.specs.declared.maps.Range.{Range}
use Rattle.bmap_grammar.specs.Document.{Answers, BmapText, map_of}
use Rattle.bmap_grammar.specs.Stood.{nothing}
use Rattle.bmap_grammar.specs.declared.faults.MapFault.{MapFault}
use Rattle.bmap_grammar.specs.declared.stood.Stood.{Stood}
use Rattle.bmap_reader.proofs.Said.{bmap_said}
use Rattle.bmap_writer.specs.Parts.{front_of}
use Rattle.bmap_writer.specs.Written.{back_lines, ended, front_lines, mapped_line, opening, range_line, text_of, text_with, written_text}
use Rattle.bmap_laws.specs.Digests.{AreDigests, HasDigests, IsDigest}
use Rattle.bmap_laws.specs.Laws.{WrittenTextsAreDocuments, WrittenTextsSayTheirMap}
use Rattle.bmap_laws.proofs.Digests.{digest_long, sum_is_digest}
use Rattle.bmap_laws.proofs.Ending.{map_found, sum_there}
use Rattle.bmap_laws.proofs.Lines.{back_read, block_line, block_read, count_line, count_read, declaration_line, declaration_read}
use Rattle.bmap_laws.proofs.Lines.{end_line, map_end_line, map_read, mapped_read, size_line, size_read, start_line, start_read}
use Rattle.bmap_laws.proofs.Lines.{sum_line, sum_read, type_line, type_read}
use Rattle.bmap_laws.proofs.RangeLines.{ranges_read}
use Rattle.bmap_laws.proofs.Reading.{Reads}
use Rattle.bmap_laws.proofs.Rising.{blocks_below, digests_of, few_blocks, map_rises, next_below}
use Rattle.bmap_laws.proofs.States.{all_stood, with_mapped, with_sum}

-- ---- from the end to the front

-- the ranges, and what stands round them
ranges_part : (at : ℕ) (m : BlockMap) (place : ℕ) (digest : List ℕ) → IsMap m → HasDigests m →
    Reads at (with_sum m place digest) (10 ∷ text_of (back_lines m.ranges)) (all_stood m place digest)
ranges_part at m place digest h digests =
    let few = few_blocks m h in
    let count = h.few in
    map_read at m place digest (text_of (map range_line m.ranges ++ map_end_line ∷ end_line ∷ []))
    (all_stood m place digest)
    (λ at'. ranges_read m place digest (map_end_line ∷ end_line ∷ []) (all_stood m place digest) (block_count m)
    (omega (arith, few)) [] m.ranges at' (map_rises m h) (digests_of m digests) (omega (arith, count))
    (λ at''. back_read at'' m place digest))

-- how many bytes stand in front of the LF behind the numbers, and in front of the digits of the sum
abbrev end_of_numbers : BlockMap → ℕ
end_of_numbers m =
    43 + length (ended (size_line m)) + length (ended (block_line m)) + length (ended (count_line m))
    + length (ended (mapped_line m))

abbrev place_of : BlockMap → ℕ
place_of m = end_of_numbers m + length (ended type_line) + 5 + 19

-- the kind of the sum, the sum and the ranges
sums_part : (m : BlockMap) (at : ℕ) (digest : List ℕ) → IsMap m → HasDigests m → IsDigest digest →
    Reads at (with_mapped m)
    (10 ∷ text_of (type_line ∷ sum_line digest ∷ back_lines m.ranges))
    (all_stood m (at + length (ended type_line) + 5 + 19) digest)
sums_part m at digest h digests sum =
    let behind_type = at + length (ended type_line) in
    let place = behind_type + 5 + 19 in
    type_read at m (text_of (sum_line digest ∷ back_lines m.ranges)) (all_stood m place digest)
    (sum_read behind_type m digest (text_of (back_lines m.ranges)) (all_stood m place digest) sum
    (ranges_part (behind_type + length (ended (sum_line digest))) m place digest h digests))

-- the numbers and all behind them
numbers_part : (m : BlockMap) (rest : List (List ℕ)) (end : Stood) → IsMap m →
    Reads (end_of_numbers m) (with_mapped m) (10 ∷ text_of rest) end →
    Reads 0 nothing
    (text_of (declaration_line ∷ start_line ∷ size_line m ∷ block_line m ∷ count_line m ∷ mapped_line m ∷ rest)) end
numbers_part m rest end h more =
    let few = few_blocks m h in
    let sum = blocks_below 0 (block_count m) m.ranges (omega arith) (map_rises m h) in
    let a1 = 43 + length (ended (size_line m)) in
    let a2 = a1 + length (ended (block_line m)) in
    let a3 = a2 + length (ended (count_line m)) in
    declaration_read (text_of (start_line ∷ size_line m ∷ block_line m ∷ count_line m ∷ mapped_line m ∷ rest)) end
    (start_read (text_of (size_line m ∷ block_line m ∷ count_line m ∷ mapped_line m ∷ rest)) end
    (size_read 43 m (text_of (block_line m ∷ count_line m ∷ mapped_line m ∷ rest)) end h.size
    (block_read a1 m (text_of (count_line m ∷ mapped_line m ∷ rest)) end h.block
    (count_read a2 m (text_of (mapped_line m ∷ rest)) end (omega (arith, few))
    (mapped_read a3 m (text_of rest) end (omega (arith, few, sum)) more)))))

whole_read : (m : BlockMap) (digest : List ℕ) → IsMap m → HasDigests m → IsDigest digest →
    Reads 0 nothing (text_with m (encode_lower digest)) (all_stood m (place_of m) digest)
whole_read m digest h digests sum =
    numbers_part m (type_line ∷ sum_line digest ∷ back_lines m.ranges) (all_stood m (place_of m) digest) h
    (sums_part m (end_of_numbers m) digest h digests sum)

-- ---- the place of the sum

lines_long : (line : List ℕ) (lines : List (List ℕ)) →
    length (text_of (line ∷ lines)) ≡ length (ended line) + length (text_of lines)
lines_long line lines = length-append (ended line) (text_of lines)

place_is : (m : BlockMap) → place_of m ≡ length (front_of m)
place_is m =
    let l7 : List (List ℕ) = type_line ∷ [] in
    let l6 : List (List ℕ) = mapped_line m ∷ l7 in
    let l5 : List (List ℕ) = count_line m ∷ l6 in
    let l4 : List (List ℕ) = block_line m ∷ l5 in
    let l3 : List (List ℕ) = size_line m ∷ l4 in
    let l2 : List (List ℕ) = start_line ∷ l3 in
    let e1 = lines_long declaration_line l2 in
    let e2 = lines_long start_line l3 in
    let e3 = lines_long (size_line m) l4 in
    let e4 = lines_long (block_line m) l5 in
    let e5 = lines_long (count_line m) l6 in
    let e6 = lines_long (mapped_line m) l7 in
    let e7 = lines_long type_line [] in
    let whole = length-append (text_of (front_lines m)) (opening (codes "BmapFileChecksum")) in
    omega (arith, e1, e2, e3, e4, e5, e6, e7, whole)

-- ---- the law

-- what is read of the text that is written
written_read : (m : BlockMap) → IsMap m → HasDigests m →
    Reads 0 nothing (text_with m (encode_lower (sha256 (text_with m (replicate 64 48)))))
    (all_stood m (length (front_of m)) (sha256 (text_with m (replicate 64 48))))
written_read m h digests =
    let digest = sha256 (text_with m (replicate 64 48)) in
    subst (λ (place : ℕ). Reads 0 nothing (text_with m (encode_lower digest)) (all_stood m place digest)) (place_is m)
    (whole_read m digest h digests (sum_is_digest (text_with m (replicate 64 48))))

written_map : (m : BlockMap) → IsMap m →
    map_of (written_text m) (all_stood m (length (front_of m)) (sha256 (text_with m (replicate 64 48)))) ≡ Ok m
written_map m h =
    let digest = sha256 (text_with m (replicate 64 48)) in
    let long = digest_long digest (sum_is_digest (text_with m (replicate 64 48))) in
    map_found m (written_text m) digest (length (front_of m)) (sym (sum_there m (encode_lower digest) long))
    (next_below [] m.ranges (block_count m) (omega arith) (map_rises m h))

pub written_texts_are_documents : WrittenTextsAreDocuments
written_texts_are_documents m h digests =
    let read = written_read m h digests in (
      read.0,
      read.1,
      ap (λ (r : Result Stood MapFault). r >>= map_of (written_text m)) read.2 ∙ written_map m h,
    )

pub written_texts_say_their_map : WrittenTextsSayTheirMap
written_texts_say_their_map m h digests = bmap_said (written_text m) m (written_texts_are_documents m h digests)

-- the same of a text and ranges that are said to be the map's
pub reads_back : (m : BlockMap) (ranges : List Range) (text bytes : List ℕ) (r : Result BlockMap MapFault) → IsMap m →
    ranges ≡ m.ranges → AreDigests ranges → bytes ≡ text → text ≡ written_text m →
    ((n : BlockMap) → BmapText bytes n → Answers (Ok n) r) → Answers (Ok m) r
reads_back m ranges text bytes r h same digests held is only =
    let document = written_texts_are_documents m h (subst AreDigests same digests) in
    only m (subst (λ xs. BmapText xs m) (sym (held ∙ is)) document)
