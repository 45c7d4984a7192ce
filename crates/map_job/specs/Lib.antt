-- definitions that contracts cite
pub mod Faults
pub mod Mapped
pub mod Said
