-- definitions that contracts cite
pub mod Fitting
pub mod Layouts
pub mod Said
