-- lemmas
pub mod NearLemmas
pub mod WrittenLemmas
