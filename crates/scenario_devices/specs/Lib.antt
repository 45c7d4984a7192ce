-- definitions that contracts cite
pub use Rattle.bench.specs.Meter
pub mod Naming
