-- definitions that contracts cite
pub mod Text
pub mod Standing
pub mod Joined
pub mod Names
