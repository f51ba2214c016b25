pub mod Targets
pub mod Code
pub mod Descent
