-- definitions that contracts cite
pub mod Keys
pub mod Faults
pub mod Accepted
