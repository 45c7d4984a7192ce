-- definitions that contracts cite
pub mod Layouts
pub mod Placed
