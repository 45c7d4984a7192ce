-- definitions that contracts cite, and those of the devices, the files, the pool and the moves of a copier below
pub use Rattle.bench.specs.Disk
pub use Rattle.bench.specs.Meter
pub use Rattle.copy_opening.specs.Openings
pub use Rattle.copy_stages.specs.Stages
pub use Rattle.copier_course.specs.Courses
pub use Rattle.copier_moves.specs.Fitting
pub use Rattle.copier_moves.specs.Moves
pub use Rattle.outside.specs.Counts
pub use Rattle.outside.specs.Reading
pub use Rattle.region_pool.specs.Buffers
pub mod Beginnings
pub mod Copiers
pub mod Ends
pub mod Faults
pub mod Pools
pub mod Runs
pub mod Steps
