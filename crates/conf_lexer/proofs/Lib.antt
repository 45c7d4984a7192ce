-- lemmas
pub mod Steps
pub mod Utf8
pub mod Whole
pub mod Behind
pub mod Within
pub mod Joined
pub mod Standing
pub mod Names
