-- definitions that contracts cite
pub mod Digests
pub mod Laws
