-- definitions that contracts cite
pub mod Images
