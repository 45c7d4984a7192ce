-- definitions that contracts cite, and those of the devices and the stages below
pub use Rattle.bench.specs.Disk
pub use Rattle.copy_states.specs.Along
pub use Rattle.copy_states.specs.Jobs
pub use Rattle.copy_states.specs.Narrow
pub use Rattle.copy_states.specs.Starts
pub use Rattle.copy_laws.specs.Narrowing
pub use Rattle.copy_stages.specs.Stages
pub mod Nearness
pub mod Written
