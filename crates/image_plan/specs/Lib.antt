-- definitions that contracts cite
pub mod Faults
pub mod Lengths
pub mod Plans
