-- lemmas
mod GateLemmas
pub mod KeptOpened
mod OpeningTime
mod PieceLemmas
