pub mod ChainLemmas
pub mod CycleLemmas
pub mod Members
pub mod PathLemmas
pub mod PlacingLemmas
pub mod SetLemmas
