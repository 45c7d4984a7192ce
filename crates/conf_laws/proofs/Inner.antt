-- The keys of a section in an image that is read.
use Rattle.std.proofs.Common.{◌≡◌, ℕ, ◌-◌, ◌*◌, ◌^◌, ◌&&◌, Bool, true, false, List, Some, None, refl}
use Rattle.std.specs.Prelude.{codes, nat_le}
use Rattle.std.specs.Int.{is_power_of_two}
use Rattle.uuid.specs.Text.{parsed}
use Rattle.base_fields.specs.declared.spans.TableKind.TheVariants as table
use Rattle.conf_items.specs.declared.items.Head.{Head}
use Rattle.conf_items.specs.declared.outline.InnerItem.{InnerItem}
use Rattle.conf_values.specs.Values.{is_sector, linux_data, number_between, number_of, power_between, sector_of, size_from, size_of, table_of, truth_of, type_of}
use Rattle.conf_keys.specs.declared.settings.Section.{Section}
use Rattle.conf_keys.specs.declared.settings.Section.TheVariants as section
use Rattle.conf_keys.specs.declared.settings.Shape.{Shape}
use Rattle.conf_keys.specs.declared.settings.Shape.TheVariants as shape
use Rattle.conf_keys.specs.Checking.{first_fault}
use Rattle.conf_keys.specs.Items.{inner_key, inner_keys}
use Rattle.conf_keys.specs.Partitions.{partition_head_fault, partition_values}
use Rattle.conf_keys.specs.Sections.{hd_section, hd_values, is_lacking, is_wide, plain_values, section_fault, sector_size_of, sparse_head_fault, sparse_values, unnamed_fault}
use Rattle.conf_keys.specs.Settings.{last_text, shape_of}
use Rattle.conf_keys.proofs.Settled.{IsFitting, IsSingle, faultless, keys_pass, last_fits}
use Rattle.conf_laws.specs.Accepted.{HdHas, HdStands, PartitionHas, PartitionStands, PlainStands, SparseHas, SparseStands}
use Rattle.conf_sections.proofs.Made.{answered}
use Rattle.conf_laws.proofs.Stand.{passing_keeps, stands, stands_if, text_stands}

-- a key that isn't lacking has a text that fits, where no item has a fault
abbrev CanFit : Section → List InnerItem → Type 0
CanFit whose items =
    (form : Shape) (name : List ℕ) → shape_of whose name ≡ Some form → IsSingle form → is_lacking name (inner_keys items) ≡ false → IsFitting form (last_text name (inner_keys items))

can_fit : (whose : Section) (items : List InnerItem) → None ≡ first_fault whose items → CanFit whose items
can_fit whose items e = λ form name is single lacks. last_fits whose form name (inner_keys items) is single (keys_pass whose items e) lacks

pub hd_stands : HdStands
hd_stands head items keys e =
    let settings = inner_keys items in
    let whose = hd_section settings in
    let a = answered (section_fault (unnamed_fault head) whose items) (hd_values settings) keys e in
    let can : CanFit whose items = can_fit whose items (faultless (unnamed_fault head) whose items a.0).1 in
    rw a.1 (record {
      align = stands_if inner_key items (codes "align") (size_from 1) size_of (λ text n. passing_keeps (nat_le 1) (size_of text) n) (can (shape.Size 1) (codes "align") refl (λ before what. refl));
      partition_table_type = stands inner_key items (codes "partition-table-type") table_of table_of table.Mbr (λ text kind is. is) (can shape.Table (codes "partition-table-type") refl (λ before what. refl));
      extended_partition = stands inner_key items (codes "extended-partition") (number_between 0 4) number_of 0 (λ text n. passing_keeps _ (number_of text) n) (can (shape.Number 0 4) (codes "extended-partition") refl (λ before what. refl));
      disk_signature = stands inner_key items (codes "disk-signature") (number_between 0 (2 ^ 32 - 1)) number_of 0 (λ text n. passing_keeps _ (number_of text) n) (can (shape.Number 0 (2 ^ 32 - 1)) (codes "disk-signature") refl (λ before what. refl));
      disk_uuid = stands_if inner_key items (codes "disk-uuid") parsed parsed (λ text id is. is) (can shape.Identifier (codes "disk-uuid") refl (λ before what. refl));
      gpt_location = stands inner_key items (codes "gpt-location") (size_from (2 * sector_size_of settings)) size_of (2 * sector_size_of settings) (λ text n. passing_keeps (nat_le (2 * sector_size_of settings)) (size_of text) n) (can (shape.Size (2 * sector_size_of settings)) (codes "gpt-location") refl (λ before what. refl));
      gpt_no_backup = stands inner_key items (codes "gpt-no-backup") truth_of truth_of false (λ text b is. is) (can shape.Truth (codes "gpt-no-backup") refl (λ before what. refl));
      fill = stands inner_key items (codes "fill") truth_of truth_of false (λ text b is. is) (can shape.Truth (codes "fill") refl (λ before what. refl));
      sector_size = stands inner_key items (codes "sector-size") (sector_of (is_wide settings)) size_of 512 (λ text n. passing_keeps (is_sector (is_wide settings)) (size_of text) n) (can (shape.Sector (is_wide settings)) (codes "sector-size") refl (λ before what. refl));
    })

pub sparse_stands : SparseStands
sparse_stands head items keys e =
    let settings = inner_keys items in
    let a = answered (section_fault (sparse_head_fault head settings) section.Sparse items) (sparse_values settings) keys e in
    let can : CanFit section.Sparse items = can_fit section.Sparse items (faultless (sparse_head_fault head settings) section.Sparse items a.0).1 in
    rw a.1 (record {
      image = text_stands inner_key items (codes "image") (can shape.Text (codes "image") refl (λ before what. refl));
      block_size = stands inner_key items (codes "block-size") (power_between 4096 1048576) size_of 4096 (λ text n. passing_keeps _ (size_of text) n) (can (shape.Power 4096 1048576) (codes "block-size") refl (λ before what. refl));
    })

pub plain_stands : PlainStands
plain_stands head items keys e =
    let a = answered (section_fault (unnamed_fault head) section.Plain items) (plain_values (inner_keys items)) keys e in
    let can : CanFit section.Plain items = can_fit section.Plain items (faultless (unnamed_fault head) section.Plain items a.0).1 in
    rw a.1 (text_stands inner_key items (codes "name") (can shape.Text (codes "name") refl (λ before what. refl)))

pub partition_stands : PartitionStands
partition_stands head items keys e =
    let a = answered (section_fault (partition_head_fault head) section.Partition items) (partition_values head (inner_keys items)) keys e in
    let can : CanFit section.Partition items = can_fit section.Partition items (faultless (partition_head_fault head) section.Partition items a.0).1 in
    rw a.1 (record {
      offset = stands_if inner_key items (codes "offset") (size_from 0) size_of (λ text n. passing_keeps (nat_le 0) (size_of text) n) (can (shape.Size 0) (codes "offset") refl (λ before what. refl));
      size = stands_if inner_key items (codes "size") (size_from 0) size_of (λ text n. passing_keeps (nat_le 0) (size_of text) n) (can (shape.Size 0) (codes "size") refl (λ before what. refl));
      align = stands_if inner_key items (codes "align") (size_from 1) size_of (λ text n. passing_keeps (nat_le 1) (size_of text) n) (can (shape.Size 1) (codes "align") refl (λ before what. refl));
      image = text_stands inner_key items (codes "image") (can shape.Text (codes "image") refl (λ before what. refl));
      fill = stands inner_key items (codes "fill") truth_of truth_of false (λ text b is. is) (can shape.Truth (codes "fill") refl (λ before what. refl));
      autoresize = stands inner_key items (codes "autoresize") truth_of truth_of false (λ text b is. is) (can shape.Truth (codes "autoresize") refl (λ before what. refl));
      bootable = stands inner_key items (codes "bootable") truth_of truth_of false (λ text b is. is) (can shape.Truth (codes "bootable") refl (λ before what. refl));
      read_only = stands inner_key items (codes "read-only") truth_of truth_of false (λ text b is. is) (can shape.Truth (codes "read-only") refl (λ before what. refl));
      hidden = stands inner_key items (codes "hidden") truth_of truth_of false (λ text b is. is) (can shape.Truth (codes "hidden") refl (λ before what. refl));
      no_automount = stands inner_key items (codes "no-automount") truth_of truth_of false (λ text b is. is) (can shape.Truth (codes "no-automount") refl (λ before what. refl));
      in_partition_table = stands inner_key items (codes "in-partition-table") truth_of truth_of true (λ text b is. is) (can shape.Truth (codes "in-partition-table") refl (λ before what. refl));
      partition_type = stands_if inner_key items (codes "partition-type") (number_between 1 255) number_of (λ text n. passing_keeps _ (number_of text) n) (can (shape.Number 1 255) (codes "partition-type") refl (λ before what. refl));
      partition_uuid = stands_if inner_key items (codes "partition-uuid") parsed parsed (λ text id is. is) (can shape.Identifier (codes "partition-uuid") refl (λ before what. refl));
      partition_type_uuid = stands inner_key items (codes "partition-type-uuid") type_of type_of linux_data (λ text id is. is) (can shape.PartitionType (codes "partition-type-uuid") refl (λ before what. refl));
    })
