-- lemmas
pub mod ForgetLemmas
pub mod LookLemmas
pub mod RequestLemmas
pub mod RunLemmas
