-- What stands where in an image: what each partition claims, the tables, and the byte at each offset.
use Rattle.std.specs.Prelude.{ℕ, ◌+◌, ◌-◌, List, [], ◌∷◌, ◌++◌, Option, Some, None, Bool, ◌&&◌, ◌||◌, not, nat_le, nat_lt, is_some, if◌then◌else◌, slice_index, unwrap_or}
use Rattle.std.specs.List.{list_any}
use Rattle.std.specs.Option.{option_or}
use Rattle.base_fields.specs.Parts.{Part, part_byte}
use Rattle.span_cover.specs.Cover.{covers}
use Rattle.mbr_table.specs.Mbr.{mbr_parts}
use Rattle.mbr_table.specs.declared.mbr.MbrSpec.{MbrSpec}
use Rattle.extended_chain.specs.Chain.{chain_parts}
use Rattle.gpt_table.specs.GptParts.{gpt_parts}
use Rattle.gpt_table.specs.declared.table.GptSpec.{GptSpec}
use Rattle.image_layout.specs.declared.layout.Layout.{Layout}
use Rattle.image_layout.specs.declared.layout.Placed.{Placed}

-- ---- partitions

-- the offset behind a partition's last byte
abbrev pub end_of : Placed → ℕ
end_of p = p.at + p.size

-- an offset of the image that a partition claims: from its place to its end, without its holes
abbrev pub is_claimed : Placed → ℕ → Bool
is_claimed p o = nat_le p.at o && nat_lt o (end_of p) && not (covers p.holes (o - p.at))

-- one whose byte is that of the partition's file
abbrev pub has_file_byte : Placed → ℕ → Bool
has_file_byte p o = is_claimed p o && nat_lt o (p.at + p.len)

-- ---- tables

abbrev pub record_parts_of : Option MbrSpec → List Part
record_parts_of None = []
record_parts_of (Some spec) = mbr_parts spec

abbrev pub guid_parts_of : Option GptSpec → List Part
guid_parts_of None = []
guid_parts_of (Some spec) = gpt_parts spec

-- the master boot record, the boot records of the logical partitions, and the GUID partition table
abbrev pub table_parts : Layout → List Part
table_parts l = record_parts_of l.mbr ++ chain_parts l.logical ++ guid_parts_of l.gpt

-- the byte of a table at an offset, and None where no table has one
abbrev pub table_byte : Layout → ℕ → Option ℕ
table_byte l o = part_byte (table_parts l) o

-- ---- bytes

-- the bytes of a partition's file, and none where it has no file
abbrev pub source_bytes : (List ℕ → List ℕ) → Option (List ℕ) → List ℕ
source_bytes bytes None = []
source_bytes bytes (Some file) = bytes file

-- the byte of the first partition with a byte of its file there, by the bytes of each file
abbrev pub file_byte : (List ℕ → List ℕ) → List Placed → ℕ → Option ℕ
file_byte bytes [] o = None
file_byte bytes (p ∷ ps) o = if has_file_byte p o then Some (slice_index (source_bytes bytes p.source) (o - p.at)) else file_byte bytes ps o

-- the byte at an offset: that of a table, else that of a file, else the fill
abbrev pub byte_at : Layout → (List ℕ → List ℕ) → ℕ → ℕ
byte_at l bytes o = unwrap_or (option_or (table_byte l o) (file_byte bytes l.parts o)) l.fill

-- ---- what is covered

-- an offset that a map of the image names
abbrev pub is_covered : Layout → ℕ → Bool
is_covered l o =
    (l.whole && nat_lt o l.size)
    || is_some (table_byte l o)
    || list_any (λ p. has_file_byte p o || (p.whole && is_claimed p o)) l.parts
