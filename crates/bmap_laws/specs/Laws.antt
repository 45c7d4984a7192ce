-- The laws of block maps that are written and read.
use Rattle.std.specs.Prelude.{◌≡◌, Ok}
use Rattle.block_map.specs.Maps.{IsMap}
use Rattle.block_map.specs.declared.maps.BlockMap.{BlockMap}
use Rattle.bmap_grammar.specs.Document.{BmapText, said}
use Rattle.bmap_writer.specs.Written.{written_text}
use Rattle.bmap_laws.specs.Digests.{HasDigests}

-- the text that is written for a map is a document of it
abbrev pub WrittenTextsAreDocuments : Type 0
WrittenTextsAreDocuments = (m : BlockMap) → IsMap m → HasDigests m → BmapText (written_text m) m

-- and of no other map
abbrev pub WrittenTextsSayTheirMap : Type 0
WrittenTextsSayTheirMap = (m : BlockMap) → IsMap m → HasDigests m → said (written_text m) ≡ Ok m
