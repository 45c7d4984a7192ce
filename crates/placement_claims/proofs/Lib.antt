-- lemmas
pub mod Clashes
pub mod Meeting
pub mod OffsetSets
