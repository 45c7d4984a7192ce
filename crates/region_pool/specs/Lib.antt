-- definitions that contracts cite
pub mod Blocks
pub mod Buffers
pub mod Loans
pub mod Ownership
pub mod Parts
pub mod Runs
pub mod Uses
pub mod Whole
