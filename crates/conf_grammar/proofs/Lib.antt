-- lemmas
pub mod TextsRead
pub mod Standing
pub mod FirstItem
pub mod TreesFound
pub mod OneTree
pub mod KindsStand
