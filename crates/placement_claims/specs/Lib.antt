-- definitions that contracts cite
pub mod Held
