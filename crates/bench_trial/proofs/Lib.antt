-- lemmas
mod Marks
mod Pairs
