-- lemmas
mod Lengths
mod Parts
