-- lemmas
mod MapLemmas
mod CopyLemmas
