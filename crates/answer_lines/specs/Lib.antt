-- definitions that contracts cite
pub mod Answer
pub mod Kind
pub mod Lines
