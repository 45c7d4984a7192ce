-- definitions that contracts cite
pub mod Answers
pub mod Texts
pub mod Steps
