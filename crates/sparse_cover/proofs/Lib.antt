-- lemmas
mod Spans
