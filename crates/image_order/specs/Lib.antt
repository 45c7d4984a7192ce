-- definitions that contracts cite
pub mod Chains
pub mod Laws
pub mod Making
pub mod Order
pub mod Path
pub mod Sets
