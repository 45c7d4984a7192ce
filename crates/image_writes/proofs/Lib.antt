-- lemmas
pub mod Serving
