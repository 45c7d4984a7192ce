-- definitions that contracts cite
pub use Rattle.bench.specs.Disk
pub use Rattle.copy_states.specs.Along
pub use Rattle.copy_states.specs.Jobs
pub use Rattle.copy_states.specs.Narrow
pub use Rattle.copy_states.specs.Outcomes
pub use Rattle.copy_states.specs.Standing
pub use Rattle.copy_states.specs.Starts
pub mod Endings
pub mod Marks
pub mod Narrowing
pub mod Opening
pub mod Ranges
pub mod Small
pub mod Steps
pub mod Writes
