-- definitions that contracts cite
pub mod Faults
pub mod Runs
pub mod Steps
