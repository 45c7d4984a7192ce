-- definitions that contracts cite, and those of the devices, maps and pools below
pub use Rattle.bench.specs.Disk
pub use Rattle.bench.specs.Meter
pub use Rattle.block_map.specs.Maps
pub use Rattle.region_pool.specs.Uses
pub mod Checks
