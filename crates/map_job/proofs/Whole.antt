-- The map of an image that is measured, and its file.
use Rattle.std.specs.Prelude.{◌≡◌, ℕ, List, [], Option, Some, Result, Ok, Err, IsOkAnd, length, unwrap_or}
use Rattle.std.proofs.Common.{ap, subst, ◌∙◌}
use Rattle.block_map.specs.Maps.{IsMap, IsMapOf, blocks_in}
use Rattle.block_map.specs.declared.maps.BlockMap.{BlockMap}
use Rattle.bmap_writer.specs.Written.{written_text}
use Rattle.outside.specs.Files.{Tree, bytes_of}
use Rattle.map_job.specs.Mapped.{IsMapped, IsMeasured}
use Rattle.map_job.specs.Said.{Image}
use Rattle.map_job.specs.declared.faults.MappingFault.{MappingFault}
use Rattle.map_job.specs.declared.mapping.Mapped.{Mapped}
use Rattle.map_job.specs.declared.measuring.Measured.{Measured}

bytes_are : (file : Option (List ℕ)) (bytes : List ℕ) → file ≡ Some bytes → unwrap_or file [] ≡ bytes
bytes_are file bytes there = ap (λ (o : Option (List ℕ)). unwrap_or o []) there

-- its map is written
pub mapped_by : (said : Result Image MappingFault) (before file : Tree) (name : List ℕ) (after : Option (List ℕ))
    (measured : Measured) (block : ℕ) (map : BlockMap) (mapped : Mapped) → file ≡ before
    → IsOkAnd said (IsMeasured (before name) measured) → IsMapOf measured.cover (bytes_of file name) block map
    → IsMap map → after ≡ Some (written_text map) → mapped.ranges ≡ length map.ranges
    → mapped.blocks ≡ blocks_in map.ranges → IsOkAnd said (λ wanted. IsMapped wanted block after mapped)
mapped_by (Ok image) before file name after measured block map mapped same h is sound text ranges blocks = record {
  spans = measured.cover;
  cover = h.cover;
  map = map;
  sound = sound;
  is =
      subst (λ (bs : List ℕ). IsMapOf measured.cover bs block map)
      (ap (λ (t : Tree). bytes_of t name) same ∙ bytes_are (before name) image.bytes h.there) is;
  text = text;
  ranges = ranges;
  blocks = blocks;
}
mapped_by (Err fault) before file name after measured block map mapped same h is sound text ranges blocks = absurd h
