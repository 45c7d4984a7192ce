-- definitions that contracts cite
pub mod Text
pub mod Items
pub mod Stood
pub mod Document
