-- lemmas
mod Blocks
mod Growing
mod Writes
