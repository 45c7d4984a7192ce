pub mod CheckLemmas
pub mod ClashLemmas
pub mod LawLemmas
pub mod NameLemmas
pub mod Reading
