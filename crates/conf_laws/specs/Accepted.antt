-- The keys of a section that is read: each has the value that its last text stands for, or the default.
use Rattle.std.specs.Prelude.{◌≡◌, ℕ, ◌*◌, true, false, List, Option, Some, Ok, codes}
use Rattle.uuid.specs.Text.{parsed}
use Rattle.base_fields.specs.declared.spans.TableKind.TheVariants as table
use Rattle.conf_items.specs.declared.items.Head.{Head}
use Rattle.conf_items.specs.declared.outline.InnerItem.{InnerItem}
use Rattle.conf_items.specs.declared.outline.SectionItem.{SectionItem}
use Rattle.conf_items.specs.declared.outline.TopSection.{TopSection}
use Rattle.conf_values.specs.Values.{linux_data, number_of, size_of, table_of, truth_of, type_of}
use Rattle.conf_keys.specs.declared.conf.ConfigKeys.{ConfigKeys}
use Rattle.conf_keys.specs.declared.conf.FlashSection.{FlashSection}
use Rattle.conf_keys.specs.declared.conf.HdKeys.{HdKeys}
use Rattle.conf_keys.specs.declared.conf.ImageSection.{ImageSection}
use Rattle.conf_keys.specs.declared.conf.PartitionSection.{PartitionSection}
use Rattle.conf_keys.specs.declared.conf.PlainKeys.{PlainKeys}
use Rattle.conf_keys.specs.declared.conf.SparseKeys.{SparseKeys}
use Rattle.conf_keys.specs.Items.{inner_key, top_key}
use Rattle.conf_keys.specs.Partitions.{partition_of}
use Rattle.conf_keys.specs.Sections.{config_of, flash_of, hd_of, plain_of, sparse_of}
use Rattle.conf_sections.specs.Image.{image_of, is_image_made}
use Rattle.conf_laws.specs.Keys.{HasText, Stands, StandsIf}

-- a text stands for itself
abbrev pub itself : List ℕ → Option (List ℕ)
itself text = Some text

-- ---- sections in an image

pub record HdHas (items : List InnerItem) (keys : HdKeys) : Type 0 where
  pub align : StandsIf inner_key items (codes "align") size_of keys.align
  pub partition_table_type : Stands inner_key items (codes "partition-table-type") table_of table.Mbr keys.partition_table_type
  pub extended_partition : Stands inner_key items (codes "extended-partition") number_of 0 keys.extended_partition
  pub disk_signature : Stands inner_key items (codes "disk-signature") number_of 0 keys.disk_signature
  pub disk_uuid : StandsIf inner_key items (codes "disk-uuid") parsed keys.disk_uuid
  pub gpt_location : Stands inner_key items (codes "gpt-location") size_of (2 * keys.sector_size) keys.gpt_location
  pub gpt_no_backup : Stands inner_key items (codes "gpt-no-backup") truth_of false keys.gpt_no_backup
  pub fill : Stands inner_key items (codes "fill") truth_of false keys.fill
  pub sector_size : Stands inner_key items (codes "sector-size") size_of 512 keys.sector_size

abbrev pub HdStands : Type 0
HdStands = (head : Head) (items : List InnerItem) (keys : HdKeys) → hd_of head items ≡ Ok keys → HdHas items keys

pub record SparseHas (items : List InnerItem) (keys : SparseKeys) : Type 0 where
  pub image : StandsIf inner_key items (codes "image") itself keys.image
  pub block_size : Stands inner_key items (codes "block-size") size_of 4096 keys.block_size

abbrev pub SparseStands : Type 0
SparseStands = (head : Head) (items : List InnerItem) (keys : SparseKeys) → sparse_of head items ≡ Ok keys → SparseHas items keys

abbrev pub PlainStands : Type 0
PlainStands = (head : Head) (items : List InnerItem) (keys : PlainKeys) → plain_of head items ≡ Ok keys → StandsIf inner_key items (codes "name") itself keys.name

pub record PartitionHas (items : List InnerItem) (keys : PartitionSection) : Type 0 where
  pub offset : StandsIf inner_key items (codes "offset") size_of keys.offset
  pub size : StandsIf inner_key items (codes "size") size_of keys.size
  pub align : StandsIf inner_key items (codes "align") size_of keys.align
  pub image : StandsIf inner_key items (codes "image") itself keys.image
  pub fill : Stands inner_key items (codes "fill") truth_of false keys.fill
  pub autoresize : Stands inner_key items (codes "autoresize") truth_of false keys.autoresize
  pub bootable : Stands inner_key items (codes "bootable") truth_of false keys.bootable
  pub read_only : Stands inner_key items (codes "read-only") truth_of false keys.read_only
  pub hidden : Stands inner_key items (codes "hidden") truth_of false keys.hidden
  pub no_automount : Stands inner_key items (codes "no-automount") truth_of false keys.no_automount
  pub in_partition_table : Stands inner_key items (codes "in-partition-table") truth_of true keys.in_partition_table
  pub partition_type : StandsIf inner_key items (codes "partition-type") number_of keys.partition_type
  pub partition_uuid : StandsIf inner_key items (codes "partition-uuid") parsed keys.partition_uuid
  pub partition_type_uuid : Stands inner_key items (codes "partition-type-uuid") type_of linux_data keys.partition_type_uuid

abbrev pub PartitionStands : Type 0
PartitionStands = (head : Head) (items : List InnerItem) (keys : PartitionSection) → partition_of head items ≡ Ok keys → PartitionHas items keys

-- ---- sections at the top

pub record ConfigHas (items : List SectionItem) (keys : ConfigKeys) : Type 0 where
  pub inputpath : StandsIf top_key items (codes "inputpath") itself keys.inputpath
  pub outputpath : StandsIf top_key items (codes "outputpath") itself keys.outputpath

abbrev pub ConfigStands : Type 0
ConfigStands = (head : Head) (items : List SectionItem) (keys : ConfigKeys) → config_of head items ≡ Ok keys → ConfigHas items keys

-- both keys are given
pub record FlashHas (items : List SectionItem) (keys : FlashSection) : Type 0 where
  pub pebsize : (text : List ℕ) × HasText top_key (codes "pebsize") items text × (size_of text ≡ Some keys.pebsize)
  pub numpebs : (text : List ℕ) × HasText top_key (codes "numpebs") items text × (number_of text ≡ Some keys.numpebs)

abbrev pub FlashStands : Type 0
FlashStands = (head : Head) (items : List SectionItem) (keys : FlashSection) → flash_of head items ≡ Ok keys → FlashHas items keys

pub record ImageHas (items : List SectionItem) (image : ImageSection) : Type 0 where
  pub size : StandsIf top_key items (codes "size") size_of image.size
  pub flashtype : StandsIf top_key items (codes "flashtype") itself image.flashtype

-- the own keys of an image that is made
abbrev pub ImageStands : Type 0
ImageStands = (top : TopSection) (image : ImageSection) → is_image_made top.items ≡ true → image_of top ≡ Ok image → ImageHas top.items image
