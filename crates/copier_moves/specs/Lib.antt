-- definitions that contracts cite, and those of the devices, of a copy's states and of a copier's course below
pub use Rattle.bench.specs.Disk
pub use Rattle.bench.specs.Meter
pub use Rattle.copy_states.specs.Along
pub use Rattle.copy_states.specs.Narrow
pub use Rattle.copy_states.specs.Standing
pub use Rattle.copy_states.specs.Starts
pub use Rattle.copy_laws.specs.Marks
pub use Rattle.copy_narrow.specs.Nearness
pub use Rattle.copy_narrow.specs.Written
pub use Rattle.copier_course.specs.Courses
pub mod Fitting
pub mod Moves
