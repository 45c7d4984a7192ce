-- definitions that contracts cite
pub mod Identifiers
pub mod IsSpec
pub mod Specs
