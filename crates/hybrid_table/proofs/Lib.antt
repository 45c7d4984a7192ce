-- lemmas
pub mod ReadsBack
