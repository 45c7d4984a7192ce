-- definitions that contracts cite
pub mod History
pub mod HistoryLaws
pub mod HostBench
pub mod Leaving
pub mod MemBench
pub mod MemBenchCalls
pub mod Record
