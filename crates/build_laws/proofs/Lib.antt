-- lemmas
mod Afterwards
pub mod Graphs
pub mod Served
mod Sources
pub mod Steps
