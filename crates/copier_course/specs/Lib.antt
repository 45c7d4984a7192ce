-- definitions that contracts cite, and those of the states of a copy below
pub use Rattle.copy_states.specs.Along
pub use Rattle.copy_states.specs.Jobs
pub use Rattle.journal_format.specs.JobFields
pub use Rattle.journal_format.specs.Journals
pub mod Courses
