-- definitions that contracts cite, and those of the fields and the limits below
pub use Rattle.base_fields.specs.Fields
pub use Rattle.block_map.specs.Maps
pub use Rattle.block_map.specs.Units
pub mod JobFields
pub mod Journals
