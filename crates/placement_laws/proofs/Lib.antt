-- lemmas
pub mod Exactly
pub mod Firsts
pub mod Images
pub mod Lists
pub mod Multiples
pub mod Numbers
pub mod Spots
