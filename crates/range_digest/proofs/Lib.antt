-- lemmas
mod Hashing
