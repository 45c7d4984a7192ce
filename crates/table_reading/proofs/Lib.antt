-- lemmas
pub mod Numbers
