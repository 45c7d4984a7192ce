-- definitions that contracts cite
pub mod Grammar
pub mod Outline
