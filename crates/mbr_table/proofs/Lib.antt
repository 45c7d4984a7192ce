-- lemmas on one slot, on the whole record, and on an image that has its part
pub mod Held
pub mod SlotReads
pub mod ReadsBack
