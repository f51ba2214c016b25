pub mod Words
pub mod Parts
pub mod Scopes
pub mod Named
pub mod Kinds
pub mod Bodies
pub mod Well
