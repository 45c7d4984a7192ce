-- lemmas
mod Editing
mod Replacing
mod Searching
pub mod Spans
mod Touching
pub mod Unique
