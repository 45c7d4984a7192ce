-- definitions that contracts cite
pub mod Progress
