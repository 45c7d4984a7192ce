-- definitions that contracts cite
pub mod Printing
pub mod Stages
