-- The lines in front of the ranges and behind them.
use Rattle.std.proofs.Common.{ℕ, ◌+◌, ◌^◌, ◌<◌, ◌≤◌, List, [], ◌∷◌, ◌++◌, length, codes, decimal, arith, append_assoc, refl, subst, sym}
use Rattle.hex.specs.Hex.{encode_lower}
use Rattle.base_fields.specs.Numbers.{IsPowerBetween}
use Rattle.block_map.specs.Maps.{block_count, blocks_in}
use Rattle.block_map.specs.declared.maps.BlockMap.{BlockMap}
use Rattle.bmap_grammar.specs.Stood.{nothing}
use Rattle.bmap_grammar.specs.Text.{is_space}
use Rattle.bmap_grammar.specs.declared.items.Field.TheVariants as field
use Rattle.bmap_grammar.specs.declared.items.Item.TheVariants as item
use Rattle.bmap_grammar.specs.declared.stood.Stood.{Stood}
use Rattle.bmap_writer.specs.Written.{element, ended, mapped_line}
use Rattle.bmap_laws.specs.Digests.{IsDigest}
use Rattle.bmap_laws.proofs.Bytes.{Pass}
use Rattle.bmap_laws.proofs.Fronts.{block_piece, count_piece, declaration_piece, end_piece, map_end_piece, map_start_piece}
use Rattle.bmap_laws.proofs.Fronts.{mapped_piece, size_piece, start_piece, sum_piece, type_piece}
use Rattle.bmap_laws.proofs.Reading.{Reads, end_read, line_read, one_more}
use Rattle.bmap_laws.proofs.States.{all_stood, behind_map, block_stands, count_stands, declared_only, in_map, map_ends, map_starts}
use Rattle.bmap_laws.proofs.States.{mapped_stands, size_stands, started, sum_stands, text_ends, type_stands, with_block, with_count}
use Rattle.bmap_laws.proofs.States.{with_mapped, with_size, with_sum, with_type}

four : Pass is_space (codes "    ")
four = (refl, (refl, (refl, (refl, tt))))

-- ---- in front of the numbers

abbrev pub declaration_line : List ℕ
declaration_line = codes "<?xml version=\"1.0\" ?>"

abbrev pub start_line : List ℕ
start_line = codes "<bmap version=\"2.0\">"

pub declaration_read : (rest : List ℕ) (end : Stood) → Reads 22 declared_only (10 ∷ rest) end →
    Reads 0 nothing (ended declaration_line ++ rest) end
declaration_read rest end more =
    subst (λ (xs : List ℕ). Reads 0 nothing xs end) (sym (append_assoc declaration_line (10 ∷ []) rest))
    (one_more 0 nothing declared_only end item.Declaration declaration_line (10 ∷ rest) (omega arith)
    (declaration_piece (10 ∷ rest)) refl more)

pub start_read : (rest : List ℕ) (end : Stood) → Reads 43 started (10 ∷ rest) end →
    Reads 22 declared_only (10 ∷ (ended start_line ++ rest)) end
start_read rest end more =
    line_read 22 declared_only started end item.Start [] (codes "bmap version=\"2.0\">") rest tt
    (start_piece (10 ∷ rest)) refl more

-- ---- the elements

abbrev pub size_line : BlockMap → List ℕ
size_line m = element (codes "ImageSize") (decimal m.size)

abbrev pub block_line : BlockMap → List ℕ
block_line m = element (codes "BlockSize") (decimal m.block)

abbrev pub count_line : BlockMap → List ℕ
count_line m = element (codes "BlocksCount") (decimal (block_count m))

abbrev pub type_line : List ℕ
type_line = element (codes "ChecksumType") (codes "sha256")

abbrev pub sum_line : List ℕ → List ℕ
sum_line digest = element (codes "BmapFileChecksum") (encode_lower digest)

pub size_read : (at : ℕ) (m : BlockMap) (rest : List ℕ) (end : Stood) → m.size ≤ 2 ^ 43 →
    Reads (at + length (ended (size_line m))) (with_size m) (10 ∷ rest) end →
    Reads at started (10 ∷ (ended (size_line m) ++ rest)) end
size_read at m rest end h more =
    line_read at started (with_size m) end (item.Number field.ImageSize m.size) (codes "    ")
    (codes "ImageSize> " ++ (decimal m.size ++ codes " </ImageSize>")) rest four
    (size_piece m.size (10 ∷ rest) (omega (arith, h))) (size_stands (at + 5) m h) more

pub block_read : (at : ℕ) (m : BlockMap) (rest : List ℕ) (end : Stood) → IsPowerBetween 512 65536 m.block →
    Reads (at + length (ended (block_line m))) (with_block m) (10 ∷ rest) end →
    Reads at (with_size m) (10 ∷ (ended (block_line m) ++ rest)) end
block_read at m rest end h more =
    let most = h.not_above in
    line_read at (with_size m) (with_block m) end (item.Number field.BlockSize m.block) (codes "    ")
    (codes "BlockSize> " ++ (decimal m.block ++ codes " </BlockSize>")) rest four
    (block_piece m.block (10 ∷ rest) (omega (arith, most))) (block_stands (at + 5) m h) more

pub count_read : (at : ℕ) (m : BlockMap) (rest : List ℕ) (end : Stood) → block_count m < 2 ^ 64 →
    Reads (at + length (ended (count_line m))) (with_count m) (10 ∷ rest) end →
    Reads at (with_block m) (10 ∷ (ended (count_line m) ++ rest)) end
count_read at m rest end h more =
    line_read at (with_block m) (with_count m) end (item.Number field.BlocksCount (block_count m)) (codes "    ")
    (codes "BlocksCount> " ++ (decimal (block_count m) ++ codes " </BlocksCount>")) rest four
    (count_piece (block_count m) (10 ∷ rest) h) (count_stands (at + 5) m) more

pub mapped_read : (at : ℕ) (m : BlockMap) (rest : List ℕ) (end : Stood) → blocks_in m.ranges < 2 ^ 64 →
    Reads (at + length (ended (mapped_line m))) (with_mapped m) (10 ∷ rest) end →
    Reads at (with_count m) (10 ∷ (ended (mapped_line m) ++ rest)) end
mapped_read at m rest end h more =
    line_read at (with_count m) (with_mapped m) end (item.Number field.MappedBlocksCount (blocks_in m.ranges))
    (codes "    ") (codes "MappedBlocksCount> " ++ (decimal (blocks_in m.ranges) ++ codes " </MappedBlocksCount>")) rest
    four (mapped_piece (blocks_in m.ranges) (10 ∷ rest) h) (mapped_stands (at + 5) m) more

pub type_read : (at : ℕ) (m : BlockMap) (rest : List ℕ) (end : Stood) →
    Reads (at + length (ended type_line)) (with_type m) (10 ∷ rest) end →
    Reads at (with_mapped m) (10 ∷ (ended type_line ++ rest)) end
type_read at m rest end more =
    line_read at (with_mapped m) (with_type m) end item.ChecksumType (codes "    ")
    (codes "ChecksumType> sha256 </ChecksumType>") rest four (type_piece (10 ∷ rest)) (type_stands (at + 5) m) more

-- the digits of the sum begin 24 bytes behind the end of the line before
pub sum_read : (at : ℕ) (m : BlockMap) (digest rest : List ℕ) (end : Stood) → IsDigest digest →
    Reads (at + length (ended (sum_line digest))) (with_sum m (at + 5 + 19) digest) (10 ∷ rest) end →
    Reads at (with_type m) (10 ∷ (ended (sum_line digest) ++ rest)) end
sum_read at m digest rest end h more =
    line_read at (with_type m) (with_sum m (at + 5 + 19) digest) end (item.Checksum 19 digest) (codes "    ")
    (codes "BmapFileChecksum> " ++ (encode_lower digest ++ codes " </BmapFileChecksum>")) rest four
    (sum_piece digest (10 ∷ rest) h) (sum_stands (at + 5) m digest) more

-- ---- round the ranges

abbrev pub map_line : List ℕ
map_line = codes "    <BlockMap>"

abbrev pub map_end_line : List ℕ
map_end_line = codes "    </BlockMap>"

abbrev pub end_line : List ℕ
end_line = codes "</bmap>"

pub map_read : (at : ℕ) (m : BlockMap) (place : ℕ) (digest rest : List ℕ) (end : Stood) →
    ((at : ℕ) → Reads at (in_map m place digest []) (10 ∷ rest) end) →
    Reads at (with_sum m place digest) (10 ∷ (ended map_line ++ rest)) end
map_read at m place digest rest end more =
    line_read at (with_sum m place digest) (in_map m place digest []) end item.MapStart (codes "    ")
    (codes "BlockMap>") rest four (map_start_piece (10 ∷ rest)) (map_starts (at + 5) m place digest)
    (more (at + length (ended map_line)))

map_end_read : (at : ℕ) (m : BlockMap) (place : ℕ) (digest rest : List ℕ) (end : Stood) →
    ((at : ℕ) → Reads at (behind_map m place digest) (10 ∷ rest) end) →
    Reads at (in_map m place digest m.ranges) (10 ∷ (ended map_end_line ++ rest)) end
map_end_read at m place digest rest end more =
    line_read at (in_map m place digest m.ranges) (behind_map m place digest) end item.MapEnd (codes "    ")
    (codes "/BlockMap>") rest four (map_end_piece (10 ∷ rest)) (map_ends (at + 5) m place digest)
    (more (at + length (ended map_end_line)))

end_line_read : (at : ℕ) (m : BlockMap) (place : ℕ) (digest : List ℕ) →
    Reads at (behind_map m place digest) (10 ∷ (ended end_line ++ [])) (all_stood m place digest)
end_line_read at m place digest =
    line_read at (behind_map m place digest) (all_stood m place digest) (all_stood m place digest) item.End []
    (codes "/bmap>") [] tt (end_piece (10 ∷ [])) (text_ends (at + 1) m place digest)
    (end_read (at + length (ended end_line)) (all_stood m place digest))

-- both lines behind the ranges
pub back_read : (at : ℕ) (m : BlockMap) (place : ℕ) (digest : List ℕ) →
    Reads at (in_map m place digest m.ranges) (10 ∷ (ended map_end_line ++ (ended end_line ++ [])))
    (all_stood m place digest)
back_read at m place digest =
    map_end_read at m place digest (ended end_line ++ []) (all_stood m place digest)
    (λ at'. end_line_read at' m place digest)
