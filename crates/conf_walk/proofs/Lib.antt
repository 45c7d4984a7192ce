pub mod Refusals
pub mod RunLemmas
pub mod StackLemmas
pub mod TokenLemmas
pub mod WalkLemmas
