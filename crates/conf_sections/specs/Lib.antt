-- definitions that contracts cite, and what the crates above cite of the keys: their types, limits and values
pub use Rattle.conf_keys.specs.Values
pub use Rattle.conf_keys.specs.Within
pub mod Types
pub mod Image
pub mod Conf
pub mod Reading
