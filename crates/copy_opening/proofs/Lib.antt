-- lemmas
mod HeldOrNot
pub mod OpeningLemmas
