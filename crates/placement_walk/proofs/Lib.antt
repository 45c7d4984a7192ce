-- lemmas
pub mod Steps
