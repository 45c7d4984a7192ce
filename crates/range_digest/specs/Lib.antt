-- definitions that contracts cite
pub mod Digests
