-- definitions that contracts cite
pub mod Faults
pub mod Index
pub mod Laws
pub mod Maps
pub mod Pieces
pub mod UnitLaws
pub mod Units
