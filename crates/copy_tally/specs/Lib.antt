-- definitions that contracts cite
pub mod Laws
pub mod Tallies
