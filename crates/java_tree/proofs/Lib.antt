pub mod Rows
pub mod SpacedLemmas
pub mod Examples
pub mod Limits
pub mod Fronts
