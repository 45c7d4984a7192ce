-- lemmas
pub mod PrintingLemmas
