-- lemmas
pub mod Examples
pub mod Fits
