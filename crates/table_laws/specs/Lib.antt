-- definitions that contracts cite
pub mod Built
pub mod Laws
pub mod ReadAs
