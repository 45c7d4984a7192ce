-- lemmas
mod Laid
mod Measured
mod Sized
mod Steps
mod Written
