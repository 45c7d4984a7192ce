-- definitions that contracts cite, and those of the fields below
pub use Rattle.byteorder.specs.Endian
pub mod Crc
pub mod Fields
pub mod Numbers
pub mod Parts
pub mod Results
