-- lemmas
mod Differing
