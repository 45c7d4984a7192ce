-- lemmas
mod Parts
