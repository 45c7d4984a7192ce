-- lemmas
mod FieldBytes
pub mod JournalLemmas
