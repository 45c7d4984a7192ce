-- definitions that contracts cite, and those of a copy's states below
pub use Rattle.bench.specs.Disk
pub use Rattle.copy_states.specs.Jobs
pub use Rattle.copy_states.specs.Standing
pub mod Chains
pub mod Laws
