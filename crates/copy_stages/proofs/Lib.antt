-- lemmas
pub mod StageLemmas
