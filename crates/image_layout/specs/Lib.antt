-- definitions that contracts cite
pub mod Covering
pub mod IsLayout
pub mod Layout
pub mod ReadsBack
