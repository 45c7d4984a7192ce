-- lemmas
pub mod Maps
pub mod OnTarget
