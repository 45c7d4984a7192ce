-- The keys of a partition, from its items in order.
use Rattle.std.specs.Prelude.{ℕ, true, false, List, Option, Some, None, option_and_then, unwrap_or, Result, codes, if◌then◌else◌}
use Rattle.conf_keys.specs.declared.checking.SectionFault.{SectionFault}
use Rattle.conf_keys.specs.declared.checking.SectionFault.TheVariants.{BadValue}
use Rattle.conf_keys.specs.declared.conf.PartitionSection.{PartitionSection}
use Rattle.conf_items.specs.declared.items.Head.{Head}
use Rattle.conf_items.specs.declared.items.Place.{Place}
use Rattle.conf_items.specs.declared.items.Word.{Word}
use Rattle.conf_items.specs.declared.items.Setting.{Setting}
use Rattle.conf_items.specs.declared.outline.InnerItem.{InnerItem}
use Rattle.conf_keys.specs.declared.settings.Section.TheVariants as section
use Rattle.conf_keys.specs.Holes.{holes_of}
use Rattle.conf_keys.specs.Items.{inner_keys}
use Rattle.conf_keys.specs.Sections.{answer, identifier_at, name_text, number_at, section_fault, size_at, truth_at}
use Rattle.conf_keys.specs.Settings.{last_text}
use Rattle.conf_values.specs.Values.{is_partition_name, linux_data, type_of}

-- a partition has to have a name, of 1 to 36 characters of 0x20 to 0x7E
abbrev pub name_unfit : Place → Option Word → Option SectionFault
name_unfit word None = Some (BadValue word)
name_unfit word (Some name) = if is_partition_name name.text then None else Some (BadValue name.place)

abbrev pub partition_head_fault : Head → Option SectionFault
partition_head_fault head = name_unfit head.word.place head.name

abbrev pub type_at : List Setting → Option (List ℕ)
type_at settings = option_and_then type_of (last_text (codes "partition-type-uuid") settings)

-- ---- all keys

abbrev pub partition_values : Head → List Setting → PartitionSection
partition_values head settings = record {
  name = name_text head;
  offset = size_at 0 (codes "offset") settings;
  size = size_at 0 (codes "size") settings;
  align = size_at 1 (codes "align") settings;
  image = last_text (codes "image") settings;
  fill = unwrap_or (truth_at (codes "fill") settings) false;
  autoresize = unwrap_or (truth_at (codes "autoresize") settings) false;
  bootable = unwrap_or (truth_at (codes "bootable") settings) false;
  read_only = unwrap_or (truth_at (codes "read-only") settings) false;
  hidden = unwrap_or (truth_at (codes "hidden") settings) false;
  no_automount = unwrap_or (truth_at (codes "no-automount") settings) false;
  in_partition_table = unwrap_or (truth_at (codes "in-partition-table") settings) true;
  partition_type = number_at 1 255 (codes "partition-type") settings;
  partition_uuid = identifier_at (codes "partition-uuid") settings;
  partition_type_uuid = unwrap_or (type_at settings) linux_data;
  holes = holes_of settings;
}

abbrev pub partition_of : Head → List InnerItem → Result PartitionSection SectionFault
partition_of head items = answer
    (section_fault (partition_head_fault head) section.Partition items)
    (partition_values head (inner_keys items))
