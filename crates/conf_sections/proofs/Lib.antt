-- lemmas of the crate; the laws cite Made
pub mod Growing
pub mod Made
