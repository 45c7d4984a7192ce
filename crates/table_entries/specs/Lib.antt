-- definitions that contracts cite
pub use Rattle.conf_keys.specs.Within
pub use Rattle.extended_chain.specs.Chain
pub use Rattle.extended_chain.specs.ChainReading
pub use Rattle.gpt_table.specs.Flags
pub use Rattle.gpt_table.specs.Gpt
pub use Rattle.gpt_table.specs.Names
pub use Rattle.mbr_table.specs.Mbr
pub use Rattle.mbr_table.specs.Reading
pub mod Entries
