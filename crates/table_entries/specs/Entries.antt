-- The entries of partition tables, by the keys of a partition's section and its place. Places and sizes are in bytes.
use Rattle.std.specs.Prelude.{ℕ, ◌+◌, ◌-◌, ◌/◌, List, ◌++◌, codes, take, unwrap_or}
use Rattle.sha1.specs.Sha1.{sha1}
use Rattle.uuid.specs.Parts.{with_variant, with_version}
use Rattle.uuid.specs.Uuid.{namespace_url}
use Rattle.uuid.specs.declared.Variant.{Variant}
use Rattle.uuid.specs.declared.Version.{Version}
use Rattle.conf_keys.specs.declared.conf.HdKeys.{HdKeys}
use Rattle.conf_keys.specs.declared.conf.PartitionSection.{PartitionSection}
use Rattle.extended_chain.specs.declared.chain.LogicalSpec.{LogicalSpec}
use Rattle.gpt_table.specs.Flags.{attributes_of}
use Rattle.gpt_table.specs.Names.{name_units}
use Rattle.gpt_table.specs.declared.entry.GptEntry.{GptEntry}
use Rattle.gpt_table.specs.declared.flags.Flags.{Flags}
use Rattle.mbr_table.specs.declared.mbr.MbrEntry.{MbrEntry}

-- the type of a partition in a master boot record: Linux where none is given
abbrev pub mbr_kind : PartitionSection → ℕ
mbr_kind part = unwrap_or part.partition_type 0x83

-- the entry of a partition in a master boot record, in sectors of 512 bytes
abbrev pub mbr_entry_of : PartitionSection → ℕ → ℕ → MbrEntry
mbr_entry_of part at size =
    record { active = part.bootable; kind = mbr_kind part; first = at / 512; count = size / 512 }

-- a logical partition whose boot record stands at `head`, in sectors of 512 bytes
abbrev pub logical_spec_of : PartitionSection → ℕ → ℕ → ℕ → LogicalSpec
logical_spec_of part head at size =
    record { active = part.bootable; kind = mbr_kind part; head = head / 512; first = at / 512; count = size / 512 }

-- what a partition is marked as in a GUID partition table
abbrev pub flags_of : PartitionSection → Flags
flags_of part = record {
  bootable = part.bootable;
  read_only = part.read_only;
  hidden = part.hidden;
  no_automount = part.no_automount;
}

-- the version 5 UUID of a name under the URL namespace 6ba7b811-9dad-11d1-80b4-00c04fd430c8 (RFC 9562, sections 5.5
-- and 6.6): the first sixteen bytes of the SHA-1 of the namespace and the name, with the version and the variant set
unfoldable pub derived_id : List ℕ → List ℕ
derived_id name =
    with_version (with_variant (take 16 (sha1 (namespace_url ++ name))) Variant.RFC4122) Version.Sha1

-- the identifier of a partition of an image: its key, or that of its name after the image's
abbrev pub own_id : List ℕ → PartitionSection → List ℕ
own_id image part =
    unwrap_or part.partition_uuid (derived_id (codes "genflash:" ++ image ++ codes "#" ++ part.name))

-- the identifier of an image's disk: its key, or that of the image's name
abbrev pub disk_id : List ℕ → HdKeys → List ℕ
disk_id image hd = unwrap_or hd.disk_uuid (derived_id (codes "genflash:" ++ image))

-- the entry of a partition of an image in a GUID partition table, in sectors of z bytes; the last one counts
abbrev pub gpt_entry_of : List ℕ → PartitionSection → ℕ → ℕ → ℕ → GptEntry
gpt_entry_of image part at size z = record {
  kind = part.partition_type_uuid;
  own = own_id image part;
  first = at / z;
  last = (at + size) / z - 1;
  attrs = attributes_of (flags_of part);
  name = name_units part.name;
}
