-- definitions that contracts cite
pub use Rattle.base_fields.specs.Fields
pub use Rattle.base_fields.specs.Parts
pub mod Chs
pub mod Mbr
pub mod Reading
