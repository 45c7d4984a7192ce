-- lemmas
mod Contents
pub mod RunLemmas
mod Texts
