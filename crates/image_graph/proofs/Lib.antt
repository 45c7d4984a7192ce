pub mod FileLemmas
pub mod MadeLemmas
pub mod NumberLemmas
pub mod ReadyLemmas
