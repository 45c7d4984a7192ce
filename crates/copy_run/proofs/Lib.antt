-- lemmas
pub mod AnswerLemmas
pub mod CountLemmas
pub mod ImageLemmas
pub mod OpenLemmas
pub mod PoolLemmas
pub mod ReadLemmas
pub mod WorkLemmas
