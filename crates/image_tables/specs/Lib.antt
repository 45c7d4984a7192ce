-- definitions that contracts cite
pub mod Tables
