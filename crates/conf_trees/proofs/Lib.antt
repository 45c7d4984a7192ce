-- lemmas
pub mod Steps
pub mod TreesWalked
pub mod ItemsSaid
pub mod TreesFound
pub mod Splicing
pub mod TextsSaid
pub mod Refusing
pub mod SaidOnce
pub mod Meeting
