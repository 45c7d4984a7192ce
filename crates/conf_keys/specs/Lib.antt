-- definitions that contracts cite, and those of identifiers and values
pub use Rattle.uuid.specs.Text
pub use Rattle.conf_values.specs.Values
pub mod Checking
pub mod Holes
pub mod Items
pub mod Partitions
pub mod Sections
pub mod Settings
pub mod Within
