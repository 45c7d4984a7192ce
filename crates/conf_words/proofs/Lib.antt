-- lemmas of the crate
pub mod Cuts
pub mod Steps
