pub mod Numerals
pub mod OnLiterals
pub mod Pairs
pub mod Reading
pub mod Taken
pub mod Ranges
