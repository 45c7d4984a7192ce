-- The text of a block map, as bmap 2.0 spells it: lines, each ended by LF.
use Rattle.std.specs.Prelude.{ℕ, nat_eq, if◌then◌else◌, Option, None, Some, List, [], ◌∷◌, ◌++◌, map, replicate}
use Rattle.std.specs.Prelude.{codes, decimal}
use Rattle.std.specs.List.{flat_map}
use Rattle.hex.specs.Hex.{encode_lower}
use Rattle.sha2.specs.Sha256.{sha256}
use Rattle.block_map.specs.Maps.{block_count, blocks_in}
use Rattle.block_map.specs.declared.maps.BlockMap.{BlockMap}
use Rattle.block_map.specs.declared.maps.Range.{Range}

-- a line with its LF
abbrev pub ended : List ℕ → List ℕ
ended line = line ++ 10 ∷ []

-- the tags round the value of an element
abbrev pub opening : List ℕ → List ℕ
opening name = codes "    <" ++ name ++ codes "> "

abbrev pub closing : List ℕ → List ℕ
closing name = codes " </" ++ name ++ codes ">"

-- the line of an element
abbrev pub element : List ℕ → List ℕ → List ℕ
element name value = opening name ++ value ++ closing name

-- the attribute of a range that has a digest
abbrev pub attribute : Option (List ℕ) → List ℕ
attribute None = []
attribute (Some digest) = codes " chksum=\"" ++ encode_lower digest ++ codes "\""

-- the blocks of a range: its first and its last, or one number where they are one
abbrev pub range_blocks : Range → List ℕ
range_blocks r = if nat_eq r.first r.last then decimal r.first else decimal r.first ++ codes "-" ++ decimal r.last

-- the line of a range
abbrev pub range_line : Range → List ℕ
range_line r = codes "        <Range" ++ attribute r.digest ++ codes "> " ++ range_blocks r ++ codes " </Range>"

-- how many blocks are in the ranges
abbrev pub mapped_line : BlockMap → List ℕ
mapped_line m = element (codes "MappedBlocksCount") (decimal (blocks_in m.ranges))

-- the lines of the numbers
abbrev pub number_lines : BlockMap → List (List ℕ)
number_lines m =
    element (codes "ImageSize") (decimal m.size)
    ∷ element (codes "BlockSize") (decimal m.block)
    ∷ element (codes "BlocksCount") (decimal (block_count m))
    ∷ mapped_line m
    ∷ []

-- the lines in front of that of the sum
abbrev pub front_lines : BlockMap → List (List ℕ)
front_lines m =
    (codes "<?xml version=\"1.0\" ?>" ∷ codes "<bmap version=\"2.0\">" ∷ [])
    ++ number_lines m
    ++ element (codes "ChecksumType") (codes "sha256")
    ∷ []

-- those behind it
abbrev pub back_lines : List Range → List (List ℕ)
back_lines ranges =
    (codes "    <BlockMap>" ∷ [])
    ++ map range_line ranges
    ++ codes "    </BlockMap>"
    ∷ codes "</bmap>"
    ∷ []

-- the text of these lines
abbrev pub text_of : List (List ℕ) → List ℕ
text_of lines = flat_map ended lines

-- the text of a map in which this stands as the sum
abbrev pub text_with : BlockMap → List ℕ → List ℕ
text_with m digits =
    text_of (front_lines m ++ element (codes "BmapFileChecksum") digits ∷ back_lines m.ranges)

-- the text of a map: its sum is SHA-256 of the text that has 64 zeros there
abbrev pub written_text : BlockMap → List ℕ
written_text m = text_with m (encode_lower (sha256 (text_with m (replicate 64 48))))
