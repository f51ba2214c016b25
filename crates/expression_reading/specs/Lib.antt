pub mod Operators
pub mod Reading
pub mod Wants
pub mod Ends
pub mod Levels
pub mod Free
pub mod Parts
