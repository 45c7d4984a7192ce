-- lemmas
pub mod Bytes
pub mod UsedSteps
