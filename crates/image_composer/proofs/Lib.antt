-- lemmas
pub mod Made
pub mod Sources
pub mod Wanted
