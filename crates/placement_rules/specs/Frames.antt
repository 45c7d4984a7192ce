-- What an image has of tables, by its keys: which table, its sectors, and where it ends in front.
use Rattle.std.specs.Prelude.{ℕ, ◌+◌, ◌*◌, max, Bool, true, false, not, ◌&&◌, if◌then◌else◌}
use Rattle.base_fields.specs.declared.spans.TableKind.{TableKind}
use Rattle.base_fields.specs.declared.spans.TableKind.TheVariants as table
use Rattle.conf_keys.specs.declared.conf.HdKeys.{HdKeys}
use Rattle.conf_keys.specs.declared.conf.Kind.{Kind}
use Rattle.conf_keys.specs.declared.conf.Kind.TheVariants as kind
use Rattle.image_specs.specs.declared.specs.ImageSpec.{ImageSpec}
use Rattle.placement_rules.specs.declared.terms.Frame.{Frame}

abbrev pub has_table : TableKind → Bool
has_table table.Bare = false
has_table _ = true

abbrev pub has_guid : TableKind → Bool
has_guid table.Gpt = true
has_guid table.Hybrid = true
has_guid _ = false

abbrev pub is_mbr : TableKind → Bool
is_mbr table.Mbr = true
is_mbr _ = false

abbrev pub is_hybrid : TableKind → Bool
is_hybrid table.Hybrid = true
is_hybrid _ = false

-- an image of another kind than hdimage has no table, and sectors of 512 bytes
abbrev pub table_as : Kind → HdKeys → TableKind
table_as kind.Hd hd = hd.partition_table_type
table_as _ hd = table.Bare

abbrev pub sector_as : Kind → HdKeys → ℕ
sector_as kind.Hd hd = hd.sector_size
sector_as _ hd = 512

-- the bytes of the 128 entries of a GUID partition table
abbrev pub entries_len : ℕ
entries_len = 16384

-- the end of what stands in front
abbrev pub front_as : TableKind → HdKeys → ℕ
front_as table.Bare hd = 0
front_as table.Mbr hd = 512
front_as _ hd = max (2 * hd.sector_size) (hd.gpt_location + entries_len)

abbrev pub frame_as : ImageSpec → TableKind → Frame
frame_as spec table = record {
  table = table;
  sector = sector_as spec.kind spec.keys.hd;
  front = front_as table spec.keys.hd;
  entries_at = spec.keys.hd.gpt_location;
  backup = has_guid table && not spec.keys.hd.gpt_no_backup;
  size = spec.keys.size;
}

abbrev pub frame_of : ImageSpec → Frame
frame_of spec = frame_as spec (table_as spec.kind spec.keys.hd)

-- the bytes of the backup at the end of an image: its entries and its header
abbrev pub backup_len : Frame → ℕ
backup_len frame = if frame.backup then frame.sector + entries_len else 0
