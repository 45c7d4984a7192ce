-- lemmas
mod Between
mod Coverable
mod Gaining
mod GuidWitness
mod Rows
mod Witness
pub mod Bytes
pub mod ReadsBack
pub mod Tables
