-- lemmas
pub mod CopyLemmas
