-- lemmas
mod LineLemmas
mod ReadLemmas
pub mod WriteLemmas
