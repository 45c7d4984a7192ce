-- definitions that contracts cite
pub mod Checked
pub mod Clashes
pub mod Counts
pub mod Images
pub mod Laws
pub mod Names
pub mod Stages
