-- lemmas
mod Counts
mod Decided
mod Mapped
mod Steps
