-- definitions that contracts cite
pub mod Tally
