-- definitions that contracts cite
pub mod Answers
pub mod Devices
pub mod Faults
