-- definitions that contracts cite
pub mod Answers
