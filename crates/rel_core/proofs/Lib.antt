pub mod Forms
mod Building
mod Joining
mod Ranges
mod MarkedSets
mod KeptSets
pub mod Read
pub mod OneStart
pub mod StatesShown
pub mod StatesOf
pub mod StartsShown
pub mod Chain
