-- definitions that contracts cite
pub use Rattle.base_fields.specs.Fields
pub mod Disk
pub mod Meter
