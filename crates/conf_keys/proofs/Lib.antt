-- lemmas of the crate
pub mod Failing
pub mod Holes
pub mod Keys
pub mod Limits
pub mod Settled
pub mod Within
