-- definitions that contracts cite
pub use Rattle.base_fields.specs.Fields
pub mod Calls
pub mod Counts
pub mod Files
pub mod Lines
pub mod Memory
pub mod Printer
pub mod Reading
pub mod Writing
