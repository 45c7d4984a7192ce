-- definitions that contracts cite
pub mod Stretches
