-- lemmas
mod Lengths
