-- lemmas
mod Bytes
pub mod ExtendedReads
pub mod Heads
pub mod Held
pub mod ReadsBack
