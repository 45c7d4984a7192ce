-- lemmas of the crate
pub mod First
pub mod Image
pub mod Inner
pub mod Last
pub mod Stand
pub mod Top
