-- lemmas
mod Finished
mod Going
mod Needed
mod Sizes
