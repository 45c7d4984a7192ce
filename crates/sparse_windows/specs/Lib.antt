-- definitions that contracts cite
pub mod Windows
