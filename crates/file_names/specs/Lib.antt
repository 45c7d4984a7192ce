-- definitions that contracts cite
pub mod FullName
