-- lemmas
pub mod ChunkLemmas
pub mod TallyLemmas
pub mod ViewLemmas
