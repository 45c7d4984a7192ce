-- lemmas
pub mod Claims
pub mod Clear
pub mod Frames
pub mod Guid
pub mod Law
pub mod Own
pub mod Parts
pub mod Records
pub mod Sizes
pub mod Steps
pub mod Tables
pub mod Terms
