-- definitions that contracts cite
pub mod Faults
pub mod Layouts
pub mod Places
pub mod Taken
