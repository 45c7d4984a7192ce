-- lemmas
pub mod Bytes
pub mod Endings
pub mod Events
pub mod Marks
pub mod Nearness
pub mod Opening
pub mod Ranges
pub mod Small
pub mod Steps
pub mod UnitBytes
pub mod Writes
