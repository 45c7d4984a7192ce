-- definitions that contracts cite, and those of maps and of the journal's format below
pub use Rattle.block_map.specs.Maps
pub use Rattle.block_map.specs.Units
pub use Rattle.journal_format.specs.Journals
pub mod Along
pub mod Jobs
pub mod Narrow
pub mod Outcomes
pub mod Standing
pub mod Starts
