-- lemmas
mod Joined
