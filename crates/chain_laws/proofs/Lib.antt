-- lemmas
pub mod ChainLemmas
