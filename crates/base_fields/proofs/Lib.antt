-- lemmas
mod Crc
mod CrcTable
mod Guid
mod Multiples
mod Writes
pub mod Between
pub mod Binds
pub mod FieldRuns
pub mod Images
pub mod PartBytes
pub mod Rounding
