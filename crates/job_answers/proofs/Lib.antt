-- lemmas
pub mod LineLemmas
pub mod SaidLemmas
