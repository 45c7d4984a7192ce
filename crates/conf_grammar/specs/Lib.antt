-- definitions that contracts cite
pub mod Trees
pub mod Laws
