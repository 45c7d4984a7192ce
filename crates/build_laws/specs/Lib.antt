-- definitions that contracts cite
pub mod Builds
pub mod Laws
pub mod Order
