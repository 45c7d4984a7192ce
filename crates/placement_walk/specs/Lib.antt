-- definitions that contracts cite
pub mod Walked
