-- definitions that contracts cite
pub mod Firsts
pub mod Laws
pub mod Placed
pub mod Terms
