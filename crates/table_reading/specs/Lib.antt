-- definitions that contracts cite
pub use Rattle.base_fields.specs.Crc
pub use Rattle.base_fields.specs.Fields
pub use Rattle.mbr_table.specs.Mbr
pub use Rattle.mbr_table.specs.Reading
pub mod Recognised
pub mod Header
pub mod Record
pub mod Sector
