-- lemmas
pub mod Accepted
pub mod Chain
pub mod Counts
pub mod Entries
pub mod Guid
pub mod GuidNumbers
pub mod Recorded
pub mod Refusals
pub mod Slots
pub mod Sound
pub mod Standing
pub mod Tables
pub mod Tabled
