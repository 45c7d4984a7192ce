-- lemmas
pub mod Blocks
pub mod Refusals
pub mod Rows
pub mod Spans
pub mod Stands
pub mod Walk
