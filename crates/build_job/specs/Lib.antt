-- definitions that contracts cite
pub mod Faults
pub mod Files
pub mod Said
