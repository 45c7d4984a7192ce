-- definitions that contracts cite
pub mod Arguments
pub mod Verbs
pub mod Jobs
pub mod Ranges
