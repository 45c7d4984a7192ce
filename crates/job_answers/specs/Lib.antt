-- definitions that contracts cite
pub mod Printed
pub mod Said
