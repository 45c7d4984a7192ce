-- lemmas
pub mod AllParts
mod Holes
mod Pieces
