-- definitions that contracts cite
pub mod Bounds
pub mod Claims
pub mod Counts
pub mod Faults
pub mod Frames
pub mod Places
pub mod Terms
