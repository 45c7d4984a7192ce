-- lemmas
pub mod CopyLemmas
pub mod EndLemmas
pub mod EndingLemmas
pub mod NeedLemmas
pub mod OpenLemmas
pub mod OutcomeLemmas
pub mod PoolLemmas
pub mod SourceLemmas
pub mod StepLemmas
