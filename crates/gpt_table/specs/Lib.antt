-- definitions that contracts cite
pub use Rattle.base_fields.specs.Crc
pub use Rattle.base_fields.specs.Fields
pub use Rattle.base_fields.specs.Numbers
pub use Rattle.base_fields.specs.Parts
pub mod Span
pub mod Gpt
pub mod Reading
pub mod GptParts
pub mod Names
pub mod Flags
