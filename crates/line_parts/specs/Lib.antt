-- definitions that contracts cite
pub mod Line
pub mod Row
