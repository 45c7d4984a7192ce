-- lemmas
pub mod MarkLemmas
pub mod UnitLemmas
pub mod PutLemmas
pub mod EndLemmas
pub mod KeepLemmas
pub mod WindowLemmas
