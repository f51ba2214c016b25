pub mod Outcomes
pub mod Slots
pub mod Answers
