-- definitions that contracts cite
pub mod Parts
pub mod Written
