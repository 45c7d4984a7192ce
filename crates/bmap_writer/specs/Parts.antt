-- The text of a map in front of its sum and behind it.
use Rattle.std.specs.Prelude.{ℕ, List, ◌++◌, codes}
use Rattle.block_map.specs.declared.maps.BlockMap.{BlockMap}
use Rattle.block_map.specs.declared.maps.Range.{Range}
use Rattle.bmap_writer.specs.Written.{back_lines, closing, ended, front_lines, opening, text_of}

abbrev pub front_of : BlockMap → List ℕ
front_of m = text_of (front_lines m) ++ opening (codes "BmapFileChecksum")

abbrev pub back_of : List Range → List ℕ
back_of ranges = ended (closing (codes "BmapFileChecksum")) ++ text_of (back_lines ranges)
