-- lemmas
pub mod Chaining
pub mod Faults
pub mod Listing
pub mod PartLists
pub mod Settled
pub mod Slots
