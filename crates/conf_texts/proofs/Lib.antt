-- lemmas of the crate
mod TextLemmas
