-- lemmas
mod CountedLemmas
mod LineLemmas
mod MapLemmas
mod RunLemmas
mod UnreadLemmas
