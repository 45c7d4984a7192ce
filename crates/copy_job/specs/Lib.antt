-- definitions that contracts cite
pub mod Copies
pub mod Devices
pub mod Faults
pub mod Said
pub mod Stages
