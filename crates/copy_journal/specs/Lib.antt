-- definitions that contracts cite, and those of the devices and the format below
pub use Rattle.bench.specs.Disk
pub use Rattle.bench.specs.Meter
pub use Rattle.journal_format.specs.JobFields
pub use Rattle.journal_format.specs.Journals
pub mod Events
pub mod Faults
