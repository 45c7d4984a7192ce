-- lemmas
pub mod Cutting
pub mod Digests
pub mod Growing
pub mod Index
pub mod Joining
pub mod Numbering
pub mod Pieces
pub mod Ranges
pub mod Runs
