-- definitions that contracts cite
pub mod Cover
