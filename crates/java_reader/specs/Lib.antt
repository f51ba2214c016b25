pub mod Code
pub mod Headers
pub mod Items
pub mod Modifiers
pub mod Seen
pub mod Source
