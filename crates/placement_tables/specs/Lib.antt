-- definitions that contracts cite
pub mod Tabled
