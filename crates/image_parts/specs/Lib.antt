-- definitions that contracts cite
pub mod Files
