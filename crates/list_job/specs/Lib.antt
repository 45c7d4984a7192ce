-- definitions that contracts cite
pub use Rattle.job_stages.specs.Printing
pub use Rattle.job_stages.specs.Stages
pub mod Faults
pub mod Listings
pub mod Printed
