-- definitions that contracts cite
pub use Rattle.gpt_table.specs.Reading
pub use Rattle.table_reading.specs.Header
pub use Rattle.table_reading.specs.Recognised
pub mod Differences
pub mod Used
