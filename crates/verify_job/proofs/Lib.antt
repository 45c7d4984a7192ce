-- lemmas
pub mod Bounds
