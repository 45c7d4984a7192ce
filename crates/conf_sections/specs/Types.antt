-- The types of a configuration that is read, for the contracts of the crates above.
pub use Rattle.conf_keys.specs.declared.conf.Conf.{Conf}
pub use Rattle.conf_keys.specs.declared.conf.FlashSection.{FlashSection}
pub use Rattle.conf_keys.specs.declared.conf.HdKeys.{HdKeys}
pub use Rattle.conf_keys.specs.declared.conf.ImageSection.{ImageSection}
pub use Rattle.conf_keys.specs.declared.conf.Kind.{Kind}
pub use Rattle.conf_keys.specs.declared.conf.PartitionSection.{PartitionSection}
pub use Rattle.conf_keys.specs.declared.conf.PlainKeys.{PlainKeys}
pub use Rattle.conf_keys.specs.declared.conf.SparseKeys.{SparseKeys}
pub use Rattle.conf_values.specs.declared.values.Hole.{Hole}
