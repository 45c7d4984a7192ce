-- definitions that contracts cite
pub mod Blocks
pub mod Laws
pub mod Runs
pub mod Text
