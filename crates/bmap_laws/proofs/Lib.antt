-- lemmas
mod Bytes
pub mod Digests
mod Elements
mod Ending
mod Fronts
mod Heads
mod Lines
mod RangeLines
mod Reading
mod Rising
mod States
pub mod TheLaw
mod Values
