-- lemmas
pub mod HistoryLemmas
pub mod LeavingLemmas
mod MemBenchLemmas
pub mod RecordLemmas
mod ReplayLemmas
mod TearLemmas
mod TearPlaces
