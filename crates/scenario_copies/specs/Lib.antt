-- definitions that contracts cite
pub mod Ready
