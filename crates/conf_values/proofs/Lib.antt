-- lemmas of the crate; the layers above cite Sizes
pub mod Digits
pub mod Sizes
