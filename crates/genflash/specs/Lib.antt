-- definitions that contracts cite
pub mod Handing
