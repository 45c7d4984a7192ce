-- lemmas
pub mod DiskLemmas
pub mod MeterLemmas
