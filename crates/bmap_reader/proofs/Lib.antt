-- lemmas
pub mod Holding
pub mod Pieces
pub mod Maps
pub mod Refusals
pub mod Said
