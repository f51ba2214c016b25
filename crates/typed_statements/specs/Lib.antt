pub mod Kinds
pub mod Modifiers
pub mod Heads
pub mod Statements
pub mod Held
pub mod Reported
