-- definitions that contracts cite
pub mod Expands
pub mod Laws
pub mod Read
