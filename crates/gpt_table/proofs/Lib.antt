-- lemmas on fields without gaps, and on slots
pub mod Filled
pub mod Slots
pub mod Headers
pub mod Spans
pub mod Sums
pub mod Held
pub mod SlotReads
pub mod HeaderReads
pub mod Inside
pub mod ReadsBack
pub mod Parts
pub mod NameUnits
mod FlagLemmas
