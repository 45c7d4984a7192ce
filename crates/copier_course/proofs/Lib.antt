-- lemmas
pub mod CourseLemmas
pub mod Positions
