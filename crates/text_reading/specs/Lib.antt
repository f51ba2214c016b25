pub mod Readers
pub mod Verdicts
