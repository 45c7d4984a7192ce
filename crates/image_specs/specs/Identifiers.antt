-- Identifiers have 16 bytes.
use Rattle.std.specs.Prelude.{◌≡◌, ℕ, List, All, IfSome, length}
use Rattle.conf_keys.specs.declared.conf.ImageSection.{ImageSection}
use Rattle.conf_keys.specs.declared.conf.PartitionSection.{PartitionSection}

abbrev pub IsIdentifier : List ℕ → Type 0
IsIdentifier bytes = length bytes ≡ 16

pub record HasPartIdentifiers (part : PartitionSection) : Type 0 where
  pub own : IfSome part.partition_uuid IsIdentifier
  pub kind : IsIdentifier part.partition_type_uuid

pub record HasIdentifiers (image : ImageSection) : Type 0 where
  pub disk : IfSome image.hd.disk_uuid IsIdentifier
  pub parts : All HasPartIdentifiers image.parts
