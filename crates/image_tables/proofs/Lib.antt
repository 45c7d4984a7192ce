-- lemmas
mod Chain
mod Headers
pub mod Serving
