-- definitions that contracts cite
pub use Rattle.outside.specs.Counts
pub use Rattle.outside.specs.Files
pub use Rattle.table_reading.specs.Header
pub use Rattle.table_reading.specs.Recognised
pub use Rattle.table_reading.specs.Record
pub use Rattle.table_reading.specs.Sector
pub use Rattle.gpt_reading.specs.Differences
pub use Rattle.gpt_reading.specs.Used
pub mod Answers
pub mod Chain
pub mod Halves
pub mod Parts
pub mod Tables
