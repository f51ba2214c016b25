pub mod Bytes
pub mod Spellings
pub mod Literals
pub mod Fronts
pub mod Cut
pub mod Steps
pub mod Terminals
