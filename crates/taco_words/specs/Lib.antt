pub mod Numbers
pub mod Commands
pub mod Parsing
pub mod Limits
pub mod Asked
