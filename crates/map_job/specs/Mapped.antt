-- What a block map that is written says of its image.
use Rattle.std.specs.Prelude.{◌≡◌, ℕ, List, Option, Some, length}
use Rattle.base_fields.specs.declared.spans.Span.{Span}
use Rattle.block_map.specs.Maps.{IsMap, IsMapOf, blocks_in}
use Rattle.block_map.specs.declared.maps.BlockMap.{BlockMap}
use Rattle.bmap_writer.specs.Written.{written_text}
use Rattle.span_cover.specs.Cover.{covers}
use Rattle.map_job.specs.Said.{Image}
use Rattle.map_job.specs.declared.mapping.Mapped.{Mapped}
use Rattle.map_job.specs.declared.measuring.Measured.{Measured}

-- ---- before it is written

-- the image's file has these bytes, and these offsets of it count
pub record IsMeasured (file : Option (List ℕ)) (measured : Measured) (image : Image) : Type 0 where
  pub there : file ≡ Some image.bytes
  pub long : length image.bytes ≡ measured.size
  pub cover : (o : ℕ) → covers measured.cover o ≡ image.counts o

-- ---- when it is written

-- the file has the text of the image's map, in blocks of so many bytes: its ranges are the runs of blocks that have an
-- offset that counts, each with the digest of its bytes; and the numbers are those of the map
pub record IsMapped (image : Image) (block : ℕ) (file : Option (List ℕ)) (mapped : Mapped) : Type 0 where
  pub spans : List Span
  pub cover : (o : ℕ) → covers spans o ≡ image.counts o
  pub map : BlockMap
  pub sound : IsMap map
  pub is : IsMapOf spans image.bytes block map
  pub text : file ≡ Some (written_text map)
  pub ranges : mapped.ranges ≡ length map.ranges
  pub blocks : mapped.blocks ≡ blocks_in map.ranges
