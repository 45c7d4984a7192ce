-- definitions that contracts cite
pub mod Images
pub mod Laws
