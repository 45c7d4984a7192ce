-- lemmas
pub mod PartLemmas
