-- definitions that contracts cite
pub mod Pairs
