-- definitions that contracts cite
pub mod Answers
pub mod Chunks
pub mod Header
pub mod Laws
pub mod Sparse
pub mod Tally
