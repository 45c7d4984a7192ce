pub mod Leases
pub mod Pieces
pub mod Rows
pub mod Sharing
pub mod Slots
pub mod Uses
