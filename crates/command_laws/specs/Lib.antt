-- definitions that contracts cite
pub mod Copies
pub mod Laws
