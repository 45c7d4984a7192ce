-- The values of all keys are such as the table of keys allows, and the names and sizes within the limits.
use Rattle.std.specs.Prelude.{◌≡◌, ℕ, ◌*◌, ◌^◌, ◌<◌, ◌≤◌, ◌⊎◌, IsTrue, IfSome, IsSome, All, Contains, length}
use Rattle.std.specs.Int.{is_power_of_two}
use Rattle.base_fields.specs.Numbers.{IsBetween}
use Rattle.base_fields.specs.declared.spans.TableKind.{TableKind}
use Rattle.base_fields.specs.declared.spans.TableKind.TheVariants as table
use Rattle.conf_keys.specs.declared.conf.Conf.{Conf}
use Rattle.conf_keys.specs.declared.conf.FlashSection.{FlashSection}
use Rattle.conf_keys.specs.declared.conf.HdKeys.{HdKeys}
use Rattle.conf_values.specs.declared.values.Hole.{Hole}
use Rattle.conf_keys.specs.declared.conf.ImageSection.{ImageSection}
use Rattle.conf_keys.specs.declared.conf.Kind.TheVariants.{Sparse}
use Rattle.conf_keys.specs.declared.conf.PartitionSection.{PartitionSection}
use Rattle.conf_keys.specs.declared.conf.SparseKeys.{SparseKeys}
use Rattle.conf_values.specs.Values.{is_partition_name}

-- at most so many bytes as a size of a text may have, and at least the given
abbrev pub IsSizeFrom : ℕ → ℕ → Type 0
IsSizeFrom least n = (least ≤ n) × (n ≤ 2 ^ 43)

-- 512, or 4096 where the table is a GUID partition table or none
abbrev pub IsSectorSize : TableKind → ℕ → Type 0
IsSectorSize table.Gpt n = (n ≡ 512) ⊎ (n ≡ 4096)
IsSectorSize table.Bare n = (n ≡ 512) ⊎ (n ≡ 4096)
IsSectorSize _ n = n ≡ 512

pub record IsHdWithin (keys : HdKeys) : Type 0 where
  pub align : IfSome keys.align (IsSizeFrom 1)
  pub extended_partition : keys.extended_partition ≤ 4
  pub disk_signature : keys.disk_signature < 2 ^ 32
  pub sector_size : IsSectorSize keys.partition_table_type keys.sector_size
  pub gpt_location : IsSizeFrom (2 * keys.sector_size) keys.gpt_location

pub record IsSparseWithin (keys : SparseKeys) : Type 0 where
  pub power : IsTrue (is_power_of_two keys.block_size)
  pub block_size : IsBetween 4096 1048576 keys.block_size

pub record IsFlashWithin (keys : FlashSection) : Type 0 where
  pub name : 1 ≤ length keys.name
  pub pebsize : 1 ≤ keys.pebsize
  pub numpebs : 1 ≤ keys.numpebs
  pub product : keys.pebsize * keys.numpebs ≤ 2 ^ 43

abbrev pub IsHoleWithin : Hole → Type 0
IsHoleWithin hole = (hole.from ≤ 2 ^ 43) × (hole.to ≤ 2 ^ 43)

pub record IsPartitionWithin (keys : PartitionSection) : Type 0 where
  pub name : IsTrue (is_partition_name keys.name)
  pub offset : IfSome keys.offset (IsSizeFrom 0)
  pub size : IfSome keys.size (IsSizeFrom 0)
  pub align : IfSome keys.align (IsSizeFrom 1)
  pub partition_type : IfSome keys.partition_type (IsBetween 1 255)
  pub holes : All IsHoleWithin keys.holes
  pub few_holes : length keys.holes ≤ 64

pub record IsImageWithin (image : ImageSection) : Type 0 where
  pub name : 1 ≤ length image.name
  pub size : IfSome image.size (IsSizeFrom 0)
  pub hd : IsHdWithin image.hd
  pub sparse : IsSparseWithin image.sparse
  pub sparse_image : Contains image.kinds Sparse → IsSome image.sparse.image
  pub parts : All IsPartitionWithin image.parts

pub record IsWithin (conf : Conf) : Type 0 where
  pub flashes : All IsFlashWithin conf.flashes
  pub images : All IsImageWithin conf.images
