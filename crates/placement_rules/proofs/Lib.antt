-- lemmas
pub mod AllTerms
pub mod Divides
pub mod Highest
pub mod Multiples
pub mod NoFault
pub mod Stands
pub mod Stoods
