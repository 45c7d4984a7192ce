-- definitions that contracts cite, and those of the devices, the journal's format and the states of a copy below
pub use Rattle.bench.specs.Disk
pub use Rattle.bench.specs.Meter
pub use Rattle.journal_format.specs.JobFields
pub use Rattle.journal_format.specs.Journals
pub use Rattle.copy_states.specs.Jobs
pub use Rattle.copy_states.specs.Narrow
pub use Rattle.copy_states.specs.Standing
pub use Rattle.copy_states.specs.Starts
pub use Rattle.copy_laws.specs.Opening
pub use Rattle.copy_journal.specs.Events
pub mod Faults
pub mod Openings
