pub mod CheckCommand
pub mod Decided
