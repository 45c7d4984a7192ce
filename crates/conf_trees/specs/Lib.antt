-- definitions that contracts cite
pub mod Walked
pub mod Said
pub mod Spliced
pub mod Met
pub mod Laws
