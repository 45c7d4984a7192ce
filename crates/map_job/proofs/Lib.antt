-- lemmas
mod Chosen
mod Digests
mod Measures
mod Refusals
mod Whole
