pub mod Truths
pub mod Down
pub mod Whole
